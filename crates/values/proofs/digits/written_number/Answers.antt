use Rattle.std.proofs.Common.{ℕ, ◌+◌, ◌*◌, ◌^◌, ◌<◌, ◌≤◌, arith, lit<}
use Rattle.std.proofs.Math.Nat.{pow-le-pow_right}
use Rattle.values.proofs.digits.written_number.Goals as goal

low : (n i : ℕ) → i ≤ 7 → n + 23 ≤ 23 * 10 ^ i → n < 4294967296
low n i short bound =
    let top : 10 ^ i ≤ 10 ^ 7 = pow-le-pow_right (lit< tt) short in
    omega (arith, bound, top)

pub returns-clause-small : goal.returns-clause-small
returns-clause-small c = λ short. low c.loop-c.n c.loop-c.c-index (omega (arith, short)) c.loop-c.invariant.1
