-- Rows with one more in the place of that under its key are the rows of the look-up that has it.
use Rattle.rules.proofs.Words.{◌≡◌, Bool, true, false, ◌&&◌, not, List, [], ◌∷◌, refl, ap, sym, subst, ◌∙◌, ◌||◌, if◌then◌else◌, Option, Some, None, find, filter, list_any, AreRows, AreOwn, no_two, unless_put, and_both, not_true}

-- fewer keys are needed, and more are allowed
pub loosened : {K R : Type 0} (same : K → K → Bool) (key : R → K) (needed fewer allowed more : K → Bool) (row later : K → Option R) (rows : List R)
    → ((k : K) → fewer k ≡ true → needed k ≡ true) → ((k : K) → allowed k ≡ true → more k ≡ true) → ((k : K) → row k ≡ later k) → AreRows same key needed allowed row rows → AreRows same key fewer more later rows
loosened {R = R} same key needed fewer allowed more row later rows few many same_rows are = record {
  found = λ k e. are.found k (few k e) ∙ same_rows k;
  own = own rows are.own;
  once = are.once;
}
  where
    own : (rs : List R) → AreOwn key allowed row rs → AreOwn key more later rs
    own [] h = tt
    own (r ∷ rs) h = (many (key r) h.0, sym (same_rows (key r)) ∙ h.1, own rs h.2)

module _ {K R : Type 0} (same : K → K → Bool) (same_is : (a b : K) → same a b ≡ true → a ≡ b) (itself : (a : K) → same a a ≡ true) (turned : (a b : K) → same a b ≡ same b a) (key : R → K) (needed : K → Bool) (row : K → Option R)
    (new : R) where
  -- the look-up with the row
  abbrev pub with_row : K → Option R
  with_row k = if same k (key new) then Some new else row k

  abbrev pub rows_with : List R → List R
  rows_with rows = new ∷ filter (λ r. not (same (key new) (key r))) rows

  found_kept : (k : K) → same k (key new) ≡ false → (rows : List R) → find (λ r. same k (key r)) (filter (λ r. not (same (key new) (key r))) rows) ≡ find (λ r. same k (key r)) rows
  found_kept k e [] = refl
  found_kept k e (r ∷ rs) = elim (same (key new) (key r)) as (λ b. same (key new) (key r) ≡ b
      → find (λ r. same k (key r)) (if not b then r ∷ filter (λ r. not (same (key new) (key r))) rs else filter (λ r. not (same (key new) (key r))) rs) ≡ (if same k (key r) then Some r else find (λ r. same k (key r)) rs)) [
        | true ↦ λ t.
            let own : key new ≡ key r = same_is (key new) (key r) t in
            let no : same k (key r) ≡ false = ap (same k) (sym own) ∙ e in
            found_kept k e rs ∙ sym (ap (λ b. if b then Some r else find (λ r. same k (key r)) rs) no)
        | false ↦ λ t. ap (λ x. if same k (key r) then Some r else x) (found_kept k e rs)
      ] refl

  found_with : (rows : List R) → ((k : K) → needed k ≡ true → find (λ r. same k (key r)) rows ≡ row k) → (k : K) → needed k ≡ true → find (λ r. same k (key r)) (rows_with rows) ≡ with_row k
  found_with rows found k e = elim (same k (key new)) as (λ b. same k (key new) ≡ b → (if b then Some new else find (λ r. same k (key r)) (filter (λ r. not (same (key new) (key r))) rows)) ≡ (if b then Some new else row k)) [
    | true ↦ λ t. refl
    | false ↦ λ t. found_kept k t rows ∙ found k e
  ] refl

  own_kept : (rows : List R) → AreOwn key (λ k. true) row rows → AreOwn key (λ k. true) with_row (filter (λ r. not (same (key new) (key r))) rows)
  own_kept [] h = tt
  own_kept (r ∷ rs) h = elim (same (key new) (key r)) as (λ b. same (key new) (key r) ≡ b → AreOwn key (λ k. true) with_row (if not b then r ∷ filter (λ r. not (same (key new) (key r))) rs else filter (λ r. not (same (key new) (key r))) rs)) [
    | true ↦ λ t. own_kept rs h.2
    | false ↦ λ t. (refl, ap (λ b. if b then Some new else row (key r)) (turned (key r) (key new) ∙ t) ∙ h.1, own_kept rs h.2)
  ] refl

  none_kept : (test keep : R → Bool) (rows : List R) → list_any test rows ≡ false → list_any test (filter keep rows) ≡ false
  none_kept test keep [] e = refl
  none_kept test keep (r ∷ rs) e = elim (test r) as (λ b. test r ≡ b → b || list_any test rs ≡ false → list_any test (if keep r then r ∷ filter keep rs else filter keep rs) ≡ false) [
    | true ↦ λ t h. let f : true ≡ false = h in cc
    | false ↦ λ t h. elim (keep r) as (λ c. list_any test (if c then r ∷ filter keep rs else filter keep rs) ≡ false) [
      | true ↦ (λ i. t i || none_kept test keep rs h i)
      | false ↦ none_kept test keep rs h
    ]
  ] refl e

  once_kept : (keep : R → Bool) (rows : List R) → no_two (λ r s. same (key r) (key s)) rows ≡ true → no_two (λ r s. same (key r) (key s)) (filter keep rows) ≡ true
  once_kept keep [] e = refl
  once_kept keep (r ∷ rs) e =
      let two = and_both (not (list_any (λ s. same (key r) (key s)) rs)) (no_two (λ r s. same (key r) (key s)) rs) e in
      elim (keep r) as (λ c. no_two (λ r s. same (key r) (key s)) (if c then r ∷ filter keep rs else filter keep rs) ≡ true) [
        | true ↦ (λ i. not (none_kept (λ s. same (key r) (key s)) keep rs (not_true _ two.0) i) && once_kept keep rs two.1 i)
        | false ↦ once_kept keep rs two.1
      ]

  none_left : (rows : List R) → list_any (λ r. same (key new) (key r)) (filter (λ r. not (same (key new) (key r))) rows) ≡ false
  none_left [] = refl
  none_left (r ∷ rs) = elim (same (key new) (key r)) as (λ b. same (key new) (key r) ≡ b → list_any (λ r. same (key new) (key r)) (if not b then r ∷ filter (λ r. not (same (key new) (key r))) rs else filter (λ r. not (same (key new) (key r))) rs) ≡ false) [
    | true ↦ λ t. none_left rs
    | false ↦ λ t. (λ i. t i || none_left rs i)
  ] refl

  pub rows_after : (rows : List R) → AreRows same key needed (λ k. true) row rows → AreRows same key needed (λ k. true) with_row (rows_with rows)
  rows_after rows are = record {
    found = found_with rows are.found;
    own = (refl, ap (λ b. if b then Some new else row (key new)) (itself (key new)), own_kept rows are.own);
    once = (λ i. not (none_left rows i) && once_kept (λ r. not (same (key new) (key r))) rows are.once i);
  }

  all_kept : (rows : List R) → find (λ r. same (key new) (key r)) rows ≡ None → filter (λ r. not (same (key new) (key r))) rows ≡ rows
  all_kept [] e = refl
  all_kept (r ∷ rs) e = elim (same (key new) (key r)) as (λ b. (if b then Some r else find (λ r. same (key new) (key r)) rs) ≡ None → (if not b then r ∷ filter (λ r. not (same (key new) (key r))) rs else filter (λ r. not (same (key new) (key r))) rs) ≡ r ∷ rs) [
    | true ↦ λ h. cc
    | false ↦ λ h. ap (λ xs. r ∷ xs) (all_kept rs h)
  ] e

  -- where no row is under its key
  pub rows_added : (rows : List R) → find (λ r. same (key new) (key r)) rows ≡ None → AreRows same key needed (λ k. true) row rows → AreRows same key needed (λ k. true) with_row (new ∷ rows)
  rows_added rows none are = subst (λ xs. AreRows same key needed (λ k. true) with_row (new ∷ xs)) (all_kept rows none) (rows_after rows are)

-- a row that is put is the one that is found
pub put_one : {R : Type 0} (found : Bool) (new : R) (old : Option R) → (if found then Some new else old) ≡ unless_put (if found then Some new else None) false old
put_one true new old = refl
put_one false new old = refl
