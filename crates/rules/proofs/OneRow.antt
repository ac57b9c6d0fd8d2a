-- A plan of one row, and units picked from it.
use Rattle.std.specs.List.{IsDistinct}
use Rattle.rules.proofs.Words.{◌≡◌, ℕ, ◌+◌, ◌-◌, true, false, not, ◌&&◌, List, [], ◌∷◌, refl, ap, sym, ◌∙◌, min, max, arith, eq-eqb, ◌==◌, nat_eq, if◌then◌else◌, eqb-true, append-nil, IsPicked, need_lowered, avail_lowered, plan_rows, reserved_in, Demand, Supply, Row, one_row}

module _ (b l : ℕ) where
  abbrev demand : ℕ → List Demand
  demand n = record { booking = b; need = n } ∷ []

  abbrev supply : ℕ → List Supply
  supply n = record { lot = l; avail = n } ∷ []

  is_plan : (n : ℕ) → one_row b l n ≡ plan_rows (demand n) (supply n)
  is_plan n =
      let all : min (0 + n) (0 + n) - max 0 0 ≡ n = omega arith in
      sym (append-nil (one_row b l (min (0 + n) (0 + n) - max 0 0)) ∙ ap (one_row b l) all)

  reserved_of_one : (n : ℕ) → reserved_in b l (one_row b l n) ≡ n
  reserved_of_one n =
      elim (n == 0) as (λ t. (n == 0) ≡ t → reserved_in b l (if not t then record { booking = b; lot = l; qty = n } ∷ [] else []) ≡ n) [
        | true ↦ λ e. omega (arith, eqb-true n 0 e)
        | false ↦ λ e. (λ i. (if eq-eqb b b (λ j. b) i && eq-eqb l l (λ j. l) i then n else 0) + 0) ∙ omega arith
      ] refl

  lowered_demand : (n q : ℕ) → need_lowered b q (demand n) ≡ demand (n - q)
  lowered_demand n q = λ i. (if eq-eqb b b (λ j. b) i then record { booking = b; need = n - q } else record { booking = b; need = n }) ∷ []

  lowered_supply : (n q : ℕ) → avail_lowered l q (supply n) ≡ supply (n - q)
  lowered_supply n q = λ i. (if eq-eqb l l (λ j. l) i then record { lot = l; avail = n - q } else record { lot = l; avail = n }) ∷ []

  alone : (k : ℕ) → IsDistinct nat_eq (k ∷ [])
  unfolding IsDistinct
  alone k = (tt, tt)

  pub left_of_one : (n q : ℕ) (after : List Row) → IsPicked b l q (one_row b l n) after → reserved_in b l after ≡ n - q
  left_of_one n q after picked =
      let is : after ≡ plan_rows (need_lowered b q (demand n)) (avail_lowered l q (supply n)) = picked (demand n) (supply n) (alone b) (alone l) (is_plan n) in
      ap (reserved_in b l) (is ∙ (λ i. plan_rows (lowered_demand n q i) (lowered_supply n q i)) ∙ sym (is_plan (n - q))) ∙ reserved_of_one (n - q)
