-- Rows of a table that were sought, with a row put or dropped: they are those of the table with that row.
use Rattle.slices.proofs.Words.{◌≡◌, Bool, true, false, not, ◌&&◌, inl, inr, List, [], ◌∷◌, find, Option, Some, None, refl, sym, ap, subst, ◌∙◌, ◌||◌, if◌then◌else◌, list_any, list_all, cases_Bool, IsSame, without_row, with_put}
use Rattle.table_words.specs.Found.{AreRows, no_two}

pub and_both : (a b : Bool) → a && b ≡ true → (a ≡ true) × (b ≡ true)
and_both true b e = (refl, e)
and_both false b e = let f : false ≡ true = e in cc

pub and_true : (a b : Bool) → a ≡ true → b ≡ true → a && b ≡ true
and_true true b e f = f
and_true false b e f = let g : false ≡ true = e in cc

pub not_true : (a : Bool) → not a ≡ true → a ≡ false
not_true true e = let f : false ≡ true = e in cc
not_true false e = refl

not_false : (a : Bool) → not a ≡ false → a ≡ true
not_false true e = refl
not_false false e = let f : true ≡ false = e in cc

pub of_false : (a : Bool) → a ≡ false → not a ≡ true
of_false true e = let f : true ≡ false = e in cc
of_false false e = refl

pub or_none : (a b : Bool) → a || b ≡ false → (a ≡ false) × (b ≡ false)
or_none true b e = let f : true ≡ false = e in cc
or_none false b e = (refl, e)

pub or_false : (a b : Bool) → a ≡ false → b ≡ false → a || b ≡ false
or_false true b e f = let g : true ≡ false = e in cc
or_false false b e f = f

pub false_from : (a : Bool) → (a ≡ true → ⊥) → a ≡ false
false_from true h = absurd (h refl)
false_from false h = refl

pub clash : {P : Type 0} (a : Bool) → a ≡ true → a ≡ false → P
clash true e f = absurd (let g : true ≡ false = f in cc)
clash false e f = absurd (let g : false ≡ true = e in cc)

module _ {K R : Type 0} (same : K → K → Bool) (key : R → K) (itself : (k : K) → same k k ≡ true) (exact : IsSame same) where
  abbrev same_row : R → R → Bool
  same_row a b = same (key a) (key b)

  -- whether a row stays where this one is put or dropped
  abbrev stays : R → R → Bool
  stays r x = not (same_row x r)

  turned : (a b : K) → same a b ≡ true → same b a ≡ true
  turned a b e = subst (λ c. same c a ≡ true) (exact a b e) (itself a)

  -- a look-up by the key of the row finds nothing of what stays, and one by another key what it found
  abbrev at : K → R → Bool
  at k x = same k (key x)

  own_goes : (k : K) (r x : R) → same k (key r) ≡ true → stays r x ≡ true → at k x ≡ false
  own_goes k r x own kept = false_from (at k x) (λ e.
      clash (same (key x) (key r)) (subst (λ c. same c (key r) ≡ true) (exact k (key x) e) own) (not_true (same (key x) (key r)) kept))

  other_goes : (k : K) (r x : R) → same k (key r) ≡ false → stays r x ≡ false → at k x ≡ false
  other_goes k r x other gone = false_from (at k x) (λ e.
      clash (same k (key r)) (subst (λ c. same c (key r) ≡ true) (sym (exact k (key x) e)) (not_false (same (key x) (key r)) gone)) other)

  dropped_own : (k : K) (r : R) (rows : List R) → same k (key r) ≡ true → find (at k) (without_row same_row r rows) ≡ None
  dropped_own k r [] own = refl
  dropped_own k r (x ∷ xs) own = let more = dropped_own k r xs own in elim (cases_Bool (stays r x)) [
    | inl e ↦ rw (e, own_goes k r x own e) more
    | inr e ↦ rw e more
  ]

  dropped_other : (k : K) (r : R) (rows : List R) → same k (key r) ≡ false → find (at k) (without_row same_row r rows) ≡ find (at k) rows
  dropped_other k r [] other = refl
  dropped_other k r (x ∷ xs) other = let more = dropped_other k r xs other in elim (cases_Bool (stays r x)) [
    | inl e ↦ rw e (ap (λ o. if at k x then Some x else o) more)
    | inr e ↦ rw (e, other_goes k r x other e) more
  ]

  put_own : (k : K) (r : R) (rows : List R) → same k (key r) ≡ true → find (at k) (with_put same_row r rows) ≡ Some r
  put_own k r [] own = rw own refl
  put_own k r (x ∷ xs) own = let more = put_own k r xs own in elim (cases_Bool (stays r x)) [
    | inl e ↦ rw (e, own_goes k r x own e) more
    | inr e ↦ rw e more
  ]

  put_other : (k : K) (r : R) (rows : List R) → same k (key r) ≡ false → find (at k) (with_put same_row r rows) ≡ find (at k) rows
  put_other k r [] other = rw other refl
  put_other k r (x ∷ xs) other = let more = put_other k r xs other in elim (cases_Bool (stays r x)) [
    | inl e ↦ rw e (ap (λ o. if at k x then Some x else o) more)
    | inr e ↦ rw (e, other_goes k r x other e) more
  ]

  -- what holds of all rows holds of those that stay
  all_stay : (p : R → Bool) (r : R) (rows : List R) → list_all p rows ≡ true → list_all p (without_row same_row r rows) ≡ true
  all_stay p r [] h = refl
  all_stay p r (x ∷ xs) h =
      let two = and_both (p x) (list_all p xs) h in
      let more = all_stay p r xs two.1 in
      elim (cases_Bool (stays r x)) [
        | inl e ↦ rw e (and_true (p x) (list_all p (without_row same_row r xs)) two.0 more)
        | inr e ↦ rw e more
      ]

  all_put : (p : R → Bool) (r : R) (rows : List R) → list_all p rows ≡ true → p r ≡ true → list_all p (with_put same_row r rows) ≡ true
  all_put p r [] h own = and_true (p r) true own refl
  all_put p r (x ∷ xs) h own =
      let two = and_both (p x) (list_all p xs) h in
      let more = all_put p r xs two.1 own in
      elim (cases_Bool (stays r x)) [
        | inl e ↦ rw e (and_true (p x) (list_all p (with_put same_row r xs)) two.0 more)
        | inr e ↦ rw e more
      ]

  -- no two have one key
  none_stays : (a r : R) (rows : List R) → list_any (same_row a) rows ≡ false → list_any (same_row a) (without_row same_row r rows) ≡ false
  none_stays a r [] h = refl
  none_stays a r (x ∷ xs) h =
      let two = or_none (same_row a x) (list_any (same_row a) xs) h in
      let more = none_stays a r xs two.1 in
      elim (cases_Bool (stays r x)) [
        | inl e ↦ rw e (or_false (same_row a x) (list_any (same_row a) (without_row same_row r xs)) two.0 more)
        | inr e ↦ rw e more
      ]

  none_put : (a r : R) (rows : List R) → same_row a r ≡ false → list_any (same_row a) rows ≡ false → list_any (same_row a) (with_put same_row r rows) ≡ false
  none_put a r [] apart h = or_false (same_row a r) false apart refl
  none_put a r (x ∷ xs) apart h =
      let two = or_none (same_row a x) (list_any (same_row a) xs) h in
      let more = none_put a r xs apart two.1 in
      elim (cases_Bool (stays r x)) [
        | inl e ↦ rw e (or_false (same_row a x) (list_any (same_row a) (with_put same_row r xs)) two.0 more)
        | inr e ↦ rw e more
      ]

  once_stays : (r : R) (rows : List R) → no_two same_row rows ≡ true → no_two same_row (without_row same_row r rows) ≡ true
  once_stays r [] h = refl
  once_stays r (x ∷ xs) h =
      let two = and_both (not (list_any (same_row x) xs)) (no_two same_row xs) h in
      let more = once_stays r xs two.1 in
      elim (cases_Bool (stays r x)) [
        | inl e ↦ rw e (and_true (not (list_any (same_row x) (without_row same_row r xs))) (no_two same_row (without_row same_row r xs)) (of_false _ (none_stays x r xs (not_true _ two.0))) more)
        | inr e ↦ rw e more
      ]

  once_put : (r : R) (rows : List R) → no_two same_row rows ≡ true → no_two same_row (with_put same_row r rows) ≡ true
  once_put r [] h = refl
  once_put r (x ∷ xs) h =
      let two = and_both (not (list_any (same_row x) xs)) (no_two same_row xs) h in
      let more = once_put r xs two.1 in
      elim (cases_Bool (stays r x)) [
        | inl e ↦ rw e (and_true (not (list_any (same_row x) (with_put same_row r xs))) (no_two same_row (with_put same_row r xs)) (of_false _ (none_put x r xs (not_true _ e) (not_true _ two.0))) more)
        | inr e ↦ rw e more
      ]

  module _ (wanted : K → Bool) (look : K → Option R) (r : R) (rows : List R) (are : AreRows same key wanted look rows) where
    -- the row is put, and it is one of those that are sought
    pub put_are : wanted (key r) ≡ true → AreRows same key wanted (λ k. if same k (key r) then Some r else look k) (with_put same_row r rows)
    put_are own = record {
      found = λ k w. elim (cases_Bool (same k (key r))) [
        | inl e ↦ put_own k r rows e ∙ sym (ap (λ b. if b then Some r else look k) e)
        | inr e ↦ put_other k r rows e ∙ are.found k w ∙ sym (ap (λ b. if b then Some r else look k) e)
      ];
      only = all_put (λ x. wanted (key x)) r rows are.only own;
      once = once_put r rows are.once;
    }

    -- the row is dropped
    pub dropped_are : AreRows same key wanted (λ k. if same k (key r) then None else look k) (without_row same_row r rows)
    dropped_are = record {
      found = λ k w. elim (cases_Bool (same k (key r))) [
        | inl e ↦ dropped_own k r rows e ∙ sym (ap (λ b. if b then None else look k) e)
        | inr e ↦ dropped_other k r rows e ∙ are.found k w ∙ sym (ap (λ b. if b then None else look k) e)
      ];
      only = all_stay (λ x. wanted (key x)) r rows are.only;
      once = once_stays r rows are.once;
    }

    -- it is none of those that are sought
    pub others_are : wanted (key r) ≡ false → (new : Option R) → AreRows same key wanted (λ k. if same k (key r) then new else look k) rows
    others_are other new = record {
      found = λ k w. elim (cases_Bool (same k (key r))) [
        | inl e ↦ clash (wanted (key r)) (subst (λ c. wanted c ≡ true) (exact k (key r) e) w) other
        | inr e ↦ are.found k w ∙ sym (ap (λ b. if b then new else look k) e)
      ];
      only = are.only;
      once = are.once;
    }
