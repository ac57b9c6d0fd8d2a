use Rattle.std.specs.Prelude.{◌≡◌, ◌+◌, ◌*◌, ◌^◌, ◌≤◌, drop, length}
use Rattle.values.specs.Values.{number_from}
use Rattle.values.proofs.digits.written_number.Given as goal

abbrev pub invariant-loop-c : goal.invariant-loop-c
invariant-loop-c l = (number_from l.n (drop l.c-index l.digits) ≡ number_from 0 l.digits) × (l.n + 23 ≤ 23 * 10 ^ l.c-index) × (length l.digits ≤ 9)
