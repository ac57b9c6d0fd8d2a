-- Lists along which numbers fall, the newest first: what has one number is one.
use Rattle.machine.proofs.Words.{◌≡◌, ℕ, ◌≤◌, ◌<◌, Bool, true, false, List, [], ◌∷◌, ap, arith, if◌then◌else◌, Some, find}

module _ {X : Type 0} (number : X → ℕ) where
  abbrev pub AllBelow : ℕ → List X → Type 0
  AllBelow n [] = Unit {0}
  AllBelow n (x ∷ xs) = (number x < n) × AllBelow n xs

  -- each number is below those before it
  abbrev pub AreFalling : List X → Type 0
  AreFalling [] = Unit {0}
  AreFalling (x ∷ xs) = AllBelow (number x) xs × AreFalling xs

  pub below_more : (m n : ℕ) (xs : List X) → m ≤ n → AllBelow m xs → AllBelow n xs
  below_more m n [] e h = tt
  below_more m n (x ∷ xs) e h = (omega (arith, h.0), below_more m n xs e h.1)

  pub found_below : (test : X → Bool) (n : ℕ) (xs : List X) (x : X) → AllBelow n xs → find test xs ≡ Some x → number x < n
  found_below test n [] x h e = cc
  found_below test n (y ∷ ys) x h e =
      elim (test y) as (λ b. (if b then Some y else find test ys) ≡ Some x → number x < n) [
        | true ↦ λ f. let own : y ≡ x = cc in omega (arith, h.0, ap number own)
        | false ↦ λ f. found_below test n ys x h.1 f
      ] e

  -- two that are found and have one number are one
  pub found_one : (test other : X → Bool) (xs : List X) (x y : X) → AreFalling xs → find test xs ≡ Some x → find other xs ≡ Some y → number x ≡ number y → x ≡ y
  found_one test other [] x y h e f same = cc
  found_one test other (z ∷ zs) x y h e f same =
      elim (test z) as (λ b. (if b then Some z else find test zs) ≡ Some x → x ≡ y) [
        | true ↦ λ p. elim (other z) as (λ b. (if b then Some z else find other zs) ≡ Some y → x ≡ y) [
          | true ↦ λ q. cc
          | false ↦ λ q. let own : z ≡ x = cc in absurd (omega (arith, found_below other (number z) zs y h.0 q, ap number own))
        ] f
        | false ↦ λ p. elim (other z) as (λ b. (if b then Some z else find other zs) ≡ Some y → x ≡ y) [
          | true ↦ λ q. let own : z ≡ y = cc in absurd (omega (arith, found_below test (number z) zs x h.0 p, ap number own))
          | false ↦ λ q. found_one test other zs x y h.1 p q same
        ] f
      ] e
