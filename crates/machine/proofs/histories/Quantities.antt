-- What a quantity of a command is at least and at most.
use Rattle.machine.proofs.Words.{◌≡◌, ℕ, ◌≤◌, true, arith, nat_le, nat_tests, QTY_MAX, is_qty}
use Rattle.machine.proofs.Tests.{and_both}

pub at_least_one : (q : ℕ) → is_qty q ≡ true → 1 ≤ q
at_least_one q e = let h = (and_both (nat_le 1 q) (nat_le q QTY_MAX) e).0 in grind (arith, nat_tests, h)

pub at_most_limit : (q : ℕ) → is_qty q ≡ true → q ≤ QTY_MAX
at_most_limit q e = let h = (and_both (nat_le 1 q) (nat_le q QTY_MAX) e).1 in grind (arith, nat_tests, h)
