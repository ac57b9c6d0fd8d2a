use Rattle.std.proofs.Common.{◌≢◌, ◌-◌, ◌≤◌, All, take}
use Rattle.histories.proofs.reading.piece_len.Given as goal

abbrev pub invariant-loop-i : goal.invariant-loop-i
invariant-loop-i l = (l.i ≤ l.most) × All (λ x. x ≢ 10) (take l.i l.bytes)

abbrev pub decreases-loop-i : goal.decreases-loop-i
decreases-loop-i l = l.most - l.i
