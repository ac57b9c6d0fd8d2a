-- What a statement makes of the books that drops the rows whose keys pass a test, of any table that keeps the laws.
use Rattle.tables.proofs.Words.{◌≡◌, ℕ, Bool, true, false, not, List, [], ◌∷◌, filter, inl, inr, refl, sym, ap, ◌∙◌, if◌then◌else◌, find, None, cases_Bool, Row, Term, State, Trees, runs_as, all-filter, schema_with, typed, tables_in, IsReady, Goes, Counts, IsRows-filter, passes, deletes, typed-filter, sets_off_nothing, goes, typed_put, Described, IsLawful, found, rule_of, rows_of, typed_rows, without_rows, DropsBy}

-- what is found among those that stay, where all that pass the test go or all stay
found_left : {X : Type 0} (gone test : X → Bool) (hit : Bool) → ((x : X) → test x ≡ true → gone x ≡ hit) → (xs : List X) → find test (filter (λ x. not (gone x)) xs) ≡ (if hit then None else find test xs)
found_left gone test hit alike [] = elim (cases_Bool hit) [ inl e ↦ rw e refl | inr e ↦ rw e refl ]
found_left gone test hit alike (x ∷ xs) =
    let more = found_left gone test hit alike xs in
    elim (cases_Bool (gone x)) [
      | inl g ↦ elim (cases_Bool (test x)) [
        | inl e ↦ let h : hit ≡ true = sym (alike x e) ∙ g in rw (g, e, h) (rw h at more)
        | inr e ↦ rw (g, e) more
      ]
      | inr g ↦ elim (cases_Bool (test x)) [
        | inl e ↦ let h : hit ≡ false = sym (alike x e) ∙ g in rw (g, e, h) refl
        | inr e ↦ rw (g, e) more
      ]
    ]

module _ {X K : Type 0} (d : Described X K) (laws : IsLawful d) (tests : List Term) (gone : K → Bool) (params : Row) (at : (r : Row) → d.is r ≡ true → passes params tests r ≡ gone (d.key (d.reads r))) where
  row_left : (trees : Trees) (k : K) → found d (filter (λ r. not (passes params tests r)) (trees d.layout.tree)) k ≡ (if gone k then None else d.look (tables_in trees) k)
  row_left trees k =
      let rows = trees d.layout.tree in
      ap (find (λ s. d.same k (d.key s))) (typed-filter d.is d.reads (λ r. not (passes params tests r)) (λ x. not (gone (d.key x))) (λ r h. ap not (at r h)) rows)
      ∙ found_left (λ x. gone (d.key x)) (λ x. d.same k (d.key x)) (gone k) (λ x e. ap gone (sym (laws.one_key k (d.key x) e))) (typed d.is d.reads rows)
      ∙ ap (λ f. if gone k then None else f k) (sym (laws.looks trees))

  pub drops_rows : (text : List ℕ) → DropsBy d tests text → (old new : State) (count : ℕ) → IsReady old.now → Counts count text params old new → Goes (without_rows d gone) old new
  drops_rows text it old new count ready h =
      let tree = d.layout.tree in
      let rows = old.now.trees tree in
      let left = filter (λ r. not (passes params tests r)) rows in
      let rest = ready.has.rest in
      let kept = rows_of d laws old.now ready in
      let w = runs_as text params old new (schema_with rest) ready.has.is _ (it rest).0 (it rest).1 count h.executes.0 in
      let c = deletes (schema_with rest) d.place tree _ _ _ _ _ _ (laws.placed rest) (λ olds news. sets_off_nothing rest tree olds news ready.has.apart) old new tests _ params count ready.has.is kept w in
      goes old new tree left _ ready (IsRows-filter _ rows kept) c (h.executes.1.mode ∙ sym h.inside)
      (laws.sets old.now.trees left ∙ (λ i. d.set (λ k. row_left old.now.trees k i) (tables_in old.now.trees)))
      (λ are. typed_put old.now.trees (rule_of d) left (all-filter (λ r. d.is r ≡ true) _ rows (typed_rows d laws old.now.trees are)) d.place laws.ruled are)
