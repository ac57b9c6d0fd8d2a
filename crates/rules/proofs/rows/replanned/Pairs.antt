-- Rows of a plan in two parts: a pair of booking and lot has a row in one of them at most.
use Rattle.rules.proofs.Words.{◌≡◌, ℕ, ◌+◌, Bool, true, false, ◌&&◌, not, List, [], ◌∷◌, ◌++◌, refl, ap, sym, ◌∙◌, arith, inl, inr, ◌==◌, if◌then◌else◌, Option, Some, None, ◌⊎◌, list_any, eqb-true, Row, reserved_in, total-append, Placed, KnownLot, reserved_of, no_two, and_both, or_none, not_true, same_pair, AllSome}

pub some_behind : (rs ss : List Row) → AllSome (rs ++ ss) → AllSome ss
some_behind [] ss h = h
some_behind (r ∷ rs) ss h = some_behind rs ss h.1

pub once_behind : (rs ss : List Row) → no_two same_pair (rs ++ ss) ≡ true → no_two same_pair ss ≡ true
once_behind [] ss e = e
once_behind (r ∷ rs) ss e = once_behind rs ss (and_both (not (list_any (same_pair r) (rs ++ ss))) (no_two same_pair (rs ++ ss)) e).1

module _ (b l : ℕ) where
  abbrev pair : Row → Bool
  pair r = (r.booking == b) && (r.lot == l)

  pub reserved_parted : (rs ss : List Row) → reserved_in b l (rs ++ ss) ≡ reserved_in b l rs + reserved_in b l ss
  reserved_parted rs ss = total-append (λ (r : Row). if (r.booking == b) && (r.lot == l) then r.qty else 0) rs ss

  -- besides a row of the pair there is none
  pub none_else : (rs : List Row) (r : Row) → pair r ≡ true → list_any (same_pair r) rs ≡ false → reserved_in b l rs ≡ 0
  none_else [] r e h = refl
  none_else (s ∷ ss) r e h =
      let two = or_none (same_pair r s) (list_any (same_pair r) ss) h in
      let own = and_both (r.booking == b) (r.lot == l) e in
      let not_pair : pair s ≡ false = (λ i. (s.booking == sym (eqb-true r.booking b own.0) i) && (s.lot == sym (eqb-true r.lot l own.1) i)) ∙ two.0 in
      let none : (if pair s then s.qty else 0) ≡ 0 = ap (λ t. if t then s.qty else 0) not_pair in
      omega (arith, none, none_else ss r e two.1)

  pub in_one_part : (rs ss : List Row) → no_two same_pair (rs ++ ss) ≡ true → (reserved_in b l rs ≡ 0) ⊎ (reserved_in b l ss ≡ 0)
  in_one_part [] ss e = inl refl
  in_one_part (r ∷ rs) ss e =
      let two = and_both (not (list_any (same_pair r) (rs ++ ss))) (no_two same_pair (rs ++ ss)) e in
      elim (pair r) as (λ t. pair r ≡ t → ((if t then r.qty else 0) + reserved_in b l rs ≡ 0) ⊎ (reserved_in b l ss ≡ 0)) [
        | true ↦ λ t. inr (omega (arith, none_else (rs ++ ss) r t (not_true _ two.0), reserved_parted rs ss))
        | false ↦ λ t. by_rest (in_one_part rs ss two.1)
      ] refl
    where
      by_rest : (reserved_in b l rs ≡ 0) ⊎ (reserved_in b l ss ≡ 0) → (0 + reserved_in b l rs ≡ 0) ⊎ (reserved_in b l ss ≡ 0)
      by_rest (inl z) = inl (omega (arith, z))
      by_rest (inr z) = inr z

-- the same of what is reserved for an order of a lot

pub of_parted : (p : Option Placed) (k : Option KnownLot) (rs ss : List Row) → reserved_of p k (rs ++ ss) ≡ reserved_of p k rs + reserved_of p k ss
of_parted None k rs ss = refl
of_parted (Some p) None rs ss = refl
of_parted (Some p) (Some k) rs ss = reserved_parted p.act k.came rs ss

pub of_one_part : (p : Option Placed) (k : Option KnownLot) (rs ss : List Row) → no_two same_pair (rs ++ ss) ≡ true → (reserved_of p k rs ≡ 0) ⊎ (reserved_of p k ss ≡ 0)
of_one_part None k rs ss e = inl refl
of_one_part (Some p) None rs ss e = inl refl
of_one_part (Some p) (Some k) rs ss e = in_one_part p.act k.came rs ss e
