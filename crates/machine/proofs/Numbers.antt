-- What tests on numbers and sums of rows say.
use borrow.Author.Tests.{ltb-true, lt-ltb}
use Rattle.machine.proofs.Words.{◌≡◌, ℕ, ◌+◌, ◌≤◌, ◌<◌, Bool, true, false, ◌&&◌, List, [], ◌∷◌, refl, sym, ◌∙◌, arith, eq-eqb, ◌==◌, nat_lt, if◌then◌else◌, eqb-true, total}
use Rattle.machine.proofs.Tests.{same_tests}

-- Numbers

pub equal_turned : (a b : ℕ) → (a == b) ≡ (b == a)
equal_turned a b = same_tests (a == b) (b == a) (λ e. eq-eqb b a (sym (eqb-true a b e))) (λ e. eq-eqb a b (sym (eqb-true b a e)))

pub unequal_turned : (a b : ℕ) → (a == b) ≡ false → (b == a) ≡ false
unequal_turned a b e = equal_turned b a ∙ e

pub unequal_below : (a b : ℕ) → a < b → (a == b) ≡ false
unequal_below a b h = elim (a == b) as (λ t. (a == b) ≡ t → t ≡ false) [ true ↦ λ e. let z : a ≡ b = eqb-true a b e in absurd (omega arith) | false ↦ λ e. refl ] refl

pub unequal_above : (a b : ℕ) → a < b → (b == a) ≡ false
unequal_above a b h = equal_turned b a ∙ unequal_below a b h

pub later_than : (a b c : ℕ) → nat_lt a b ≡ true → nat_lt b c ≡ true → nat_lt a c ≡ true
later_than a b c e f = let h = ltb-true a b e in let k = ltb-true b c f in lt-ltb a c (omega arith)

-- Units that count only where a test holds

pub nothing_if : (b : Bool) → ◌≡◌ {A = ℕ} (if b then 0 else 0) 0
nothing_if true = refl
nothing_if false = refl

pub fewer_if_both : (a b : Bool) (q : ℕ) → (if a && b then q else 0) ≤ (if a then q else 0)
fewer_if_both true true q = omega arith
fewer_if_both true false q = omega arith
fewer_if_both false b q = omega arith

-- Sums

pub total_zero : {X : Type 0} (xs : List X) → total (λ (x : X). 0) xs ≡ 0
total_zero [] = refl
total_zero (x ∷ xs) = omega (arith, total_zero xs)

pub add_totals : {X : Type 0} (f g : X → ℕ) (xs : List X) → total (λ x. f x + g x) xs ≡ total f xs + total g xs
add_totals f g [] = omega arith
add_totals f g (x ∷ xs) = omega (arith, add_totals f g xs)
