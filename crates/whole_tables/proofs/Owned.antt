-- Rows of which each key has one are found under their own keys.
use Rattle.whole_tables.proofs.Words.{◌≡◌, Bool, true, false, List, [], ◌∷◌, ◌++◌, find, inl, inr, refl, sym, ap, ◌∙◌, Option, Some, true≢false, AllByRecursion, list_any, cases_Bool, and_parts, not-true, false_from_ne_true, all_weaker, no_two, IsSame}

-- what holds of all holds of one among them
pub at_place : {X : Type 0} (P : X → Type 0) (xs ys : List X) (y : X) → AllByRecursion P (xs ++ y ∷ ys) → P y
at_place P [] ys y all = all.0
at_place P (x ∷ xs) ys y all = at_place P xs ys y all.1

module _ {K X : Type 0} (same : K → K → Bool) (key : X → K) (itself : (k : K) → same k k ≡ true) (one : IsSame same) where
  apart : (k : K) (rows : List X) → list_any (λ r. same k (key r)) rows ≡ false → AllByRecursion (λ r. same k (key r) ≡ false) rows
  apart k [] e = tt
  apart k (r ∷ rows) e = elim (cases_Bool (same k (key r))) [
    | inl hit ↦ absurd (true≢false (rw hit at e))
    | inr miss ↦ (miss, apart k rows (rw miss at e))
  ]

  turned : (j k : K) → same j k ≡ false → same k j ≡ false
  turned j k miss = false_from_ne_true (same k j) (λ hit. true≢false (sym (ap (λ i. same i k) (sym (one k j hit)) ∙ itself k) ∙ miss))

  pub own : (rows : List X) → no_two (λ r s. same (key r) (key s)) rows ≡ true → AllByRecursion (λ x. find (λ r. same (key x) (key r)) rows ≡ Some x) rows
  own [] once = tt
  own (x ∷ xs) once =
      let parts = and_parts _ _ once in
      (rw (itself (key x)) refl, others xs (own xs parts.1) (apart (key x) xs (not-true _ parts.0)))
    where
      others : (ys : List X) → AllByRecursion (λ y. find (λ r. same (key y) (key r)) xs ≡ Some y) ys → AllByRecursion (λ y. same (key x) (key y) ≡ false) ys
          → AllByRecursion (λ y. find (λ r. same (key y) (key r)) (x ∷ xs) ≡ Some y) ys
      others [] found miss = tt
      others (y ∷ ys) found miss = (rw (turned (key x) (key y) miss.0) found.0, others ys found.1 miss.1)

  -- where the look-ups are these, each row is the one under its key
  pub owned : {row : K → Option X} → (rows : List X) → no_two (λ r s. same (key r) (key s)) rows ≡ true → ((k : K) → find (λ r. same k (key r)) rows ≡ row k) → AllByRecursion (λ x. row (key x) ≡ Some x) rows
  owned {row} rows once found = all_weaker (λ x. find (λ r. same (key x) (key r)) rows ≡ Some x) (λ x. row (key x) ≡ Some x) (λ x e. sym (found (key x)) ∙ e) rows (own rows once)
