-- What a scan of one table answers.
use Rattle.table_words.proofs.Words.{◌≡◌, inl, inr, ℕ, Bool, cond, List, [], ◌∷◌, map, filter, flat_map, slice_get, None, unwrap_or, refl, sym, ap, subst, ◌∙◌, Less, IsPermutation, cases_Bool, IsPermutation-map, list_all, ◌^◌, ◌-◌, nat_le, Term, Env, eval_all, holds, Query, IsAnswer, output, output_cmp, Output, overlay, Trees, IsAscending, Key, output_cmp_total, map-map, ascending-map, ascending-filter, ascending_weaker, sorted_unique}
use Rattle.sqlite.specs.Order.{Row}
use Rattle.sqlite.specs.Tree.{IsTable}
use Rattle.table_words.proofs.Plans.{scan, by_rowid}

abbrev pub env : Row → Row → Env
env params r = params ∷ r ∷ []

-- the row passes each test
abbrev pub passes : Row → List Term → Row → Bool
passes params tests r = list_all (holds (env params r)) tests

abbrev pub show : Row → List Term → Row → Row
show params shown r = eval_all shown (env params r)

none_at : (n : ℕ) → slice_get {X = List Row} [] n ≡ None
none_at n = refl

overlay_none : (db : Trees) (t : ℕ) → overlay db [] t ≡ db t
overlay_none db t = elim (cases_Bool (nat_le (2 ^ 31) t)) [ inl e ↦ rw e (ap (λ o. unwrap_or o (db t)) (none_at (t - 2 ^ 31))) | inr e ↦ rw e refl ]

matched : (params : Row) (tests : List Term) (rows : List Row) → flat_map (λ r. cond (passes params tests r) (env params r ∷ []) []) rows ≡ map (env params) (filter (passes params tests) rows)
matched params tests [] = refl
matched params tests (r ∷ rows) = let more = matched params tests rows in elim (cases_Bool (passes params tests r)) [
  | inl e ↦ rw e (ap (λ l. env params r ∷ l) more)
  | inr e ↦ rw e more
]

module _ (db : Trees) (params : Row) (tree : ℕ) (tests shown : List Term) (order : List (Term × Key)) (rows : List Row) (a : IsAnswer (scan tree tests shown order) (overlay db []) params rows) where
  abbrev pub q : Query
  q = scan tree tests shown order

  abbrev pub out : Row → Output
  out r = output q (env params r)

  pub kept_are : a.kept ≡ map out (filter (passes params tests) (db tree))
  kept_are =
      let staged : a.staged ≡ map (env params) (filter (passes params tests) (db tree)) =
      a.grouped ∙ matched params tests (overlay db [] tree) ∙ ap (λ rs. map (env params) (filter (passes params tests) rs)) (overlay_none db tree) in
      a.distinct ∙ ap (map (output q)) staged ∙ map-map (output q) (env params) (filter (passes params tests) (db tree))

  shown_are : map (λ (o : Output). o.1) (map out (filter (passes params tests) (db tree))) ≡ map (show params shown) (filter (passes params tests) (db tree))
  shown_are = map-map (λ (o : Output). o.1) out (filter (passes params tests) (db tree))

  -- the rows that pass, in some order
  pub scanned : IsPermutation (map (show params shown) (filter (passes params tests) (db tree))) rows
  scanned =
      let same = IsPermutation-map (λ (o : Output). o.1) a.kept a.ordered a.same in
      subst (λ l. IsPermutation l rows) (ap (map (λ (o : Output). o.1)) kept_are ∙ shown_are) (subst (λ l. IsPermutation (map (λ (o : Output). o.1) a.kept) l) (sym a.shown) same)

-- the rows that pass, the oldest first
pub in_order : (db : Trees) (params : Row) (tree : ℕ) (tests shown : List Term) (rows : List Row) → IsTable (db tree) → IsAnswer (scan tree tests shown by_rowid) (overlay db []) params rows
    → rows ≡ map (show params shown) (filter (passes params tests) (db tree))
in_order db params tree tests shown rows up a =
    let q = scan tree tests shown by_rowid in
    let out = λ (r : Row). let o : Output = output q (env params r) in o in
    let kept = kept_are db params tree tests shown by_rowid rows a in
    let strict : IsAscending (λ x y. output_cmp q x y ≡ Less) (map out (filter (passes params tests) (db tree))) =
    ascending-map _ out _ (ascending_weaker _ (λ x y. output_cmp q (out x) (out y) ≡ Less) (λ x y h. rw h refl) _ (ascending-filter _ (passes params tests) (db tree) up)) in
    let ordered : a.ordered ≡ map out (filter (passes params tests) (db tree)) = sorted_unique (output_cmp q) (output_cmp_total q) _ _ strict (subst (λ l. IsPermutation l a.ordered) kept a.same) a.sorted in
    a.shown ∙ ap (map (λ (o : Output). o.1)) ordered ∙ shown_are db params tree tests shown by_rowid rows a
