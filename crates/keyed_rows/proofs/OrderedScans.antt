-- A scan of one table in the order of a column in which no two rows that pass are equal.
use Rattle.keyed_rows.proofs.Words.{◌≡◌, ℕ, Bool, true, false, cond, ◌&&◌, List, [], ◌∷◌, map, filter, find, refl, sym, ap, ◌∙◌, subst, Ordering, Less, Equal, Greater, is_eq, is_gt, true≢false, IsPermutation, AllByRecursion, IsTotalOrder, ordering_reverse, false_from_ne_true, on_total, recursion_from_All, All-from_recursion, All-permutation, IsPermutation-map, IsPermutation-sym, Key, Row, column, value_cmp, ascending, then-Equal, IsAnswer, Output, output_cmp, overlay, output_cmp_total, rowid, IsTable, IsAscending, Has, all_from, has_filtered, insert_sorted, sort_by, map-map, filter_all, all_weaker, all-filter, ascending-map, ascending-filter, ascending_weaker, sorted_is-sort_by, IsPermutation-sort_by, sort_by-map, typed, IsSame, typed-filter, scan, passes, show, q, out, kept_are, AreInOrder}
use Rattle.sqlite_value.specs.declared.keys.Collation.TheVariants.{Binary}
use Rattle.sqlite_sql.specs.Term.{Term, col}
use Rattle.sqlite_trees.specs.Tree.{Trees}
use Rattle.keyed_rows.proofs.Rising.{few_with_key, found_alike, found_wanted}

-- by the column at this place
abbrev pub by_column : ℕ → List (Term × Key)
by_column at = (col 1 at, ascending Binary) ∷ []

-- a relation along a list, where something is known of each element
pub ascending_among : {X : Type 0} (P : X → Type 0) (R S : X → X → Type 0) → ((x y : X) → P x → P y → R x y → S x y) → (xs : List X) → AllByRecursion P xs → IsAscending R xs → IsAscending S xs
ascending_among P R S f [] all up = tt
ascending_among {X} P R S f (x ∷ xs) all up = (below xs all.1 up.0, ascending_among P R S f xs all.1 up.1)
  where
    below : (ys : List X) → AllByRecursion P ys → AllByRecursion (R x) ys → AllByRecursion (S x) ys
    below [] good low = tt
    below (y ∷ ys) good low = (f x y all.0 good.0 low.0, below ys good.1 low.1)

-- a list without ties rises where it is sorted
module _ {X : Type 0} (cmp : X → X → Ordering) (total : IsTotalOrder cmp) where
  abbrev Rises : List X → Type 0
  Rises = IsAscending (λ a b. cmp a b ≡ Less)

  all_inserted : (P : X → Type 0) (new : X) (xs : List X) → P new → AllByRecursion P xs → AllByRecursion P (insert_sorted cmp new xs)
  all_inserted P new [] h all = (h, tt)
  all_inserted P new (x ∷ xs) h all =
      elim (is_gt (cmp new x)) as (λ b. AllByRecursion P (cond b (x ∷ insert_sorted cmp new xs) (new ∷ x ∷ xs))) [ true ↦ (all.0, all_inserted P new xs h all.1) | false ↦ (h, all) ]

  all_sorted : (P : X → Type 0) (xs : List X) → AllByRecursion P xs → AllByRecursion P (sort_by cmp xs)
  all_sorted P [] all = tt
  all_sorted P (x ∷ xs) all = all_inserted P x _ all.0 (all_sorted P xs all.1)

  inserted_rises : (new : X) (xs : List X) → AllByRecursion (λ y. is_eq (cmp new y) ≡ false) xs → Rises xs → Rises (insert_sorted cmp new xs)
  inserted_rises new [] apart up = (tt, tt)
  inserted_rises new (x ∷ xs) apart up = go (cmp new x) refl (inserted_rises new xs apart.1 up.1)
    where
      go : (o : Ordering) → cmp new x ≡ o → Rises (insert_sorted cmp new xs) → Rises (cond (is_gt o) (x ∷ insert_sorted cmp new xs) (new ∷ x ∷ xs))
      go Less e more = ((e, all_weaker _ (λ y. cmp new y ≡ Less) (λ y. total.trans new x y e) xs up.0), up)
      go Equal e more = absurd (true≢false (sym (ap is_eq e) ∙ apart.0))
      go Greater e more = (all_inserted _ new xs (total.antisymm x new ∙ ap ordering_reverse e) up.0, more)

  sorted_rises : (xs : List X) → IsAscending (λ a b. is_eq (cmp a b) ≡ false) xs → Rises (sort_by cmp xs)
  sorted_rises [] apart = tt
  sorted_rises (x ∷ xs) apart = inserted_rises x _ (all_sorted _ xs apart.0) (sorted_rises xs apart.1)

tied : (o : Ordering) → is_eq o ≡ true → o ≡ Equal
tied Less e = absurd cc
tied Equal e = refl
tied Greater e = absurd cc

module _ (db : Trees) (params : Row) (tree at : ℕ) (tests shown : List Term) where
  -- the rows that pass, the oldest first
  abbrev pub kept : List Row
  kept = filter (passes params tests) (db tree)

  -- two rows that pass and are equal in the column are one
  abbrev pub AreDistinct : Type 0
  AreDistinct = (x y : Row) → Has (db tree) x → Has (db tree) y → passes params tests x ≡ true → passes params tests y ≡ true → value_cmp (column x at) (column y at) ≡ Equal → value_cmp (rowid x) (rowid y) ≡ Equal

  abbrev Passed : Row → Type 0
  Passed r = Has (db tree) r × (passes params tests r ≡ true)

  all_passed : AllByRecursion Passed kept
  all_passed = all_from Passed kept (λ r there. has_filtered (passes params tests) (db tree) r there)

  module _ (rows : List Row) (a : IsAnswer (scan tree tests shown (by_column at)) (overlay db []) params rows) (up : IsTable (db tree)) (distinct : AreDistinct) where
    abbrev outs : Row → Output
    outs = out db params tree tests shown (by_column at) rows a

    abbrev order : Output → Output → Ordering
    order = output_cmp (q db params tree tests shown (by_column at) rows a)

    abbrev cmp : Row → Row → Ordering
    cmp x y = order (outs x) (outs y)

    cmp_is : (x y : Row) → cmp x y ≡ value_cmp (column x at) (column y at)
    cmp_is x y = then-Equal (value_cmp (column x at) (column y at))

    total : IsTotalOrder cmp
    total = on_total outs (output_cmp_total (q db params tree tests shown (by_column at) rows a))

    apart : IsAscending (λ x y. is_eq (cmp x y) ≡ false) kept
    apart =
        ascending_among Passed (λ x y. value_cmp (rowid x) (rowid y) ≡ Less) (λ x y. is_eq (cmp x y) ≡ false)
        (λ x y p r low. false_from_ne_true _ (λ e. let tie = distinct x y p.0 r.0 p.1 r.1 (sym (cmp_is x y) ∙ tied _ e) in cc)) kept all_passed
        (ascending-filter _ (passes params tests) (db tree) up)

    -- the rows that pass, in the order of the column
    abbrev pub stored : List Row
    stored = sort_by cmp kept

    pub are_shown : rows ≡ map (show params shown) stored
    are_shown =
        let sorted : a.ordered ≡ sort_by order (map outs kept) =
        sorted_is-sort_by order (output_cmp_total (q db params tree tests shown (by_column at) rows a)) (map outs kept) a.ordered
        (ascending-map (λ x y. is_eq (order x y) ≡ false) outs kept apart)
        (subst (λ l. IsPermutation l a.ordered) (kept_are db params tree tests shown (by_column at) rows a) a.same) a.sorted in
        a.shown ∙ ap (map (λ (o : Output). o.1)) (sorted ∙ sort_by-map order outs kept) ∙ map-map (λ (o : Output). o.1) outs stored

    pub stored_rises : IsAscending (λ x y. value_cmp (column x at) (column y at) ≡ Less) stored
    stored_rises = ascending_weaker _ _ (λ x y low. sym (cmp_is x y) ∙ low) stored (sorted_rises cmp total kept apart)

    pub same_rows : IsPermutation stored kept
    same_rows = IsPermutation-sort_by cmp total kept

    module _ {K X : Type 0} (is : Row → Bool) (read : Row → X) (same : K → K → Bool) (is_same : IsSame same) (itself : (k : K) → same k k ≡ true) (before : K → K → Type 0) (never : (k : K) → before k k → ⊥)
        (chain : (i j k : K) → before i j → before j k → before i k) (key : X → K) (wanted : X → Bool)
        (at_wanted : (r : Row) → is r ≡ true → passes params tests r ≡ wanted (read r))
        (orders : (x y : Row) → is x ≡ true → is y ≡ true → value_cmp (column x at) (column y at) ≡ Less → before (key (read x)) (key (read y)))
        (good : AllByRecursion (λ r. is r ≡ true) (db tree)) where
      abbrev pub IsGood : Row → Type 0
      IsGood r = is r ≡ true

      kept_good : AllByRecursion IsGood kept
      kept_good = all-filter IsGood (passes params tests) (db tree) good

      pub stored_good : AllByRecursion IsGood stored
      stored_good = recursion_from_All IsGood stored (All-permutation IsGood kept stored (IsPermutation-sym stored kept same_rows) (All-from_recursion IsGood kept kept_good))

      -- what they read as stands in the order of the keys
      pub in_key_order : AreInOrder same before key (λ k. find (λ x. wanted x && same k (key x)) (typed is read (db tree))) (map read stored)
      in_key_order =
          let rises = ascending-map (λ x y. before (key x) (key y)) read stored (ascending_among IsGood (λ x y. value_cmp (column x at) (column y at) ≡ Less) (λ x y. before (key (read x)) (key (read y))) orders stored stored_good stored_rises) in
          let all : map read kept ≡ filter wanted (typed is read (db tree)) = ap (map read) (sym (filter_all is kept kept_good)) ∙ typed-filter is read (passes params tests) wanted at_wanted (db tree) in
          record {
            found = λ k.
                found_alike (λ x. same k (key x)) (map read stored) (map read kept) (IsPermutation-map read stored kept same_rows) (few_with_key same is_same itself before never chain key k (map read stored) rises)
                ∙ ap (find (λ x. same k (key x))) all
                ∙ found_wanted wanted (λ x. same k (key x)) (typed is read (db tree));
            rises = rises;
          }
