-- Sums over rows of which at most one passes a test.
use Rattle.rules.proofs.Words.{◌≡◌, ℕ, ◌+◌, Bool, true, false, not, List, [], ◌∷◌, refl, sym, ◌∙◌, arith, ◌||◌, if◌then◌else◌, Option, Some, None, find, list_any, total, no_two, and_both, or_none, not_true}

-- Of rows apart at most one passes a test that tells their key

module _ {X : Type 0} (same : X → X → Bool) (t : X → Bool) (tells : (x y : X) → t x ≡ true → t y ≡ true → same x y ≡ true) where
  none_behind : (x : X) → t x ≡ true → (xs : List X) → list_any (same x) xs ≡ false → (u : X → ℕ) → total (λ y. if t y then u y else 0) xs ≡ 0
  none_behind x e [] h u = refl
  none_behind x e (y ∷ ys) h u =
      let two = or_none (same x y) (list_any (same x) ys) h in
      elim (t y) as (λ b. t y ≡ b → (if b then u y else 0) + total (λ y. if t y then u y else 0) ys ≡ 0) [
        | true ↦ λ f. let no : true ≡ false = sym (tells x y e f) ∙ two.0 in cc
        | false ↦ λ f. omega (arith, none_behind x e ys two.1 u)
      ] refl

  -- what is found is the sum
  pub found_total : (u : X → ℕ) (of : Option X → ℕ) → of None ≡ 0 → ((x : X) → of (Some x) ≡ u x) → (xs : List X) → no_two same xs ≡ true
      → of (find t xs) ≡ total (λ x. if t x then u x else 0) xs
  found_total u of none some [] e = none
  found_total u of none some (x ∷ xs) e =
      let two = and_both (not (list_any (same x) xs)) (no_two same xs) e in
      elim (t x) as (λ b. t x ≡ b → of (if b then Some x else find t xs) ≡ (if b then u x else 0) + total (λ x. if t x then u x else 0) xs) [
        | true ↦ λ f. omega (arith, some x, none_behind x f xs (not_true _ two.0) u)
        | false ↦ λ f. omega (arith, found_total u of none some xs two.1)
      ] refl

  -- whether there is one, times a number, is the sum
  pub any_total : (q : ℕ) (xs : List X) → no_two same xs ≡ true → (if list_any t xs then q else 0) ≡ total (λ x. if t x then q else 0) xs
  any_total q [] e = refl
  any_total q (x ∷ xs) e =
      let two = and_both (not (list_any (same x) xs)) (no_two same xs) e in
      elim (t x) as (λ b. t x ≡ b → (if b || list_any t xs then q else 0) ≡ (if b then q else 0) + total (λ x. if t x then q else 0) xs) [
        | true ↦ λ f. omega (arith, none_behind x f xs (not_true _ two.0) (λ y. q))
        | false ↦ λ f. omega (arith, any_total q xs two.1)
      ] refl
