-- Sums that stop at the cap, and the first refusal along a list.
use Rattle.row_rules.proofs.Words.{◌≡◌, ℕ, ◌+◌, ◌≤◌, ◌<◌, min, List, length, get_or, drop, ap, arith, drop-length, drop_from, total, CAP, capped, Judgement, first_refusal}

pub record IsCapped {X : Type 0} (f : X → ℕ) (xs : List X) (i sum : ℕ) : Type 0 where
  pub so_far : capped (sum + total f (drop i xs)) ≡ capped (total f xs)
  pub within : sum ≤ CAP

pub capped_none : {X : Type 0} (f : X → ℕ) (xs : List X) → IsCapped f xs 0 0
capped_none f xs = record { so_far = omega arith; within = omega arith }

pub capped_more : {X : Type 0} (f : X → ℕ) (xs : List X) (i sum more : ℕ) (none : X) → i < length xs → IsCapped f xs i sum
    → more ≡ min (sum + f (get_or xs i none)) CAP → IsCapped f xs (i + 1) more
capped_more f xs i sum more none h s e = record { so_far = omega (arith, s.so_far, ap (total f) (drop_from xs i none h), e); within = omega arith }

pub capped_all : {X : Type 0} (f : X → ℕ) (xs : List X) (i sum : ℕ) → i ≡ length xs → IsCapped f xs i sum → sum ≡ capped (total f xs)
capped_all f xs i sum e s = omega (arith, s.so_far, s.within, ap (λ n. total f (drop n xs)) e, ap (total f) (drop-length xs))

pub record IsJudged (cs : Judgement) (i : ℕ) : Type 0 where
  pub rest : first_refusal (drop i cs) ≡ first_refusal cs
