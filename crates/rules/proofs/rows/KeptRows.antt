-- Some rows left out by their keys: the others are still the rows of the look-up, also of a later one that agrees there.
use Rattle.rules.proofs.Words.{◌≡◌, Bool, true, false, ◌&&◌, not, List, [], ◌∷◌, refl, ap, sym, ◌∙◌, if◌then◌else◌, Option, Some, find, filter, list_any, AreRows, AreOwn, no_two, and_both, not_true, none_in_filter}

module _ {K R : Type 0} (same : K → K → Bool) (same_is : (a b : K) → same a b ≡ true → a ≡ b) (key : R → K) (keep : K → Bool) where
  abbrev pub rows_kept : List R → List R
  rows_kept rows = filter (λ r. keep (key r)) rows

  found_kept : (k : K) → keep k ≡ true → (rows : List R) → find (λ r. same k (key r)) (rows_kept rows) ≡ find (λ r. same k (key r)) rows
  found_kept k e [] = refl
  found_kept k e (r ∷ rs) = elim (keep (key r)) as (λ b. keep (key r) ≡ b → find (λ r. same k (key r)) (if b then r ∷ rows_kept rs else rows_kept rs) ≡ (if same k (key r) then Some r else find (λ r. same k (key r)) rs)) [
    | true ↦ λ t. ap (λ x. if same k (key r) then Some r else x) (found_kept k e rs)
    | false ↦ λ t. found_kept k e rs ∙ sym (ap (λ b. if b then Some r else find (λ r. same k (key r)) rs) (other t))
  ] refl
    where
      other : keep (key r) ≡ false → same k (key r) ≡ false
      other t = elim (same k (key r)) as (λ b. same k (key r) ≡ b → b ≡ false) [
        | true ↦ λ f. let g : true ≡ false = sym e ∙ ap keep (same_is k (key r) f) ∙ t in cc
        | false ↦ λ f. refl
      ] refl

  once_kept : (rows : List R) → no_two (λ r s. same (key r) (key s)) rows ≡ true → no_two (λ r s. same (key r) (key s)) (rows_kept rows) ≡ true
  once_kept [] e = refl
  once_kept (r ∷ rs) e =
      let two = and_both (not (list_any (λ s. same (key r) (key s)) rs)) (no_two (λ r s. same (key r) (key s)) rs) e in
      elim (keep (key r)) as (λ b. no_two (λ r s. same (key r) (key s)) (if b then r ∷ rows_kept rs else rows_kept rs) ≡ true) [
        | true ↦ (λ i. not (none_in_filter (λ s. same (key r) (key s)) (λ s. keep (key s)) rs (not_true _ two.0) i) && once_kept rs two.1 i)
        | false ↦ once_kept rs two.1
      ]

  module _ (needed fewer allowed more : K → Bool) (row later : K → Option R) (few : (k : K) → fewer k ≡ true → (needed k ≡ true) × (keep k ≡ true)) (many : (k : K) → allowed k ≡ true → more k ≡ true)
      (as_before : (k : K) → keep k ≡ true → row k ≡ later k) where
    own_kept : (rows : List R) → AreOwn key allowed row rows → AreOwn key more later (rows_kept rows)
    own_kept [] h = tt
    own_kept (r ∷ rs) h = elim (keep (key r)) as (λ b. keep (key r) ≡ b → AreOwn key more later (if b then r ∷ rows_kept rs else rows_kept rs)) [
      | true ↦ λ t. (many (key r) h.0, sym (as_before (key r) t) ∙ h.1, own_kept rs h.2)
      | false ↦ λ t. own_kept rs h.2
    ] refl

    pub kept_rows : (rows : List R) → AreRows same key needed allowed row rows → AreRows same key fewer more later (rows_kept rows)
    kept_rows rows are = record {
      found = λ k e. let two = few k e in found_kept k two.1 rows ∙ are.found k two.0 ∙ as_before k two.1;
      own = own_kept rows are.own;
      once = once_kept rows are.once;
    }
