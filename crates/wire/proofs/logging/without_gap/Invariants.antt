use Rattle.wire.proofs.Words.{◌≡◌, drop, without_gap}
use Rattle.wire.proofs.logging.without_gap.Given as goal

abbrev pub invariant-loop-i : goal.invariant-loop-i
invariant-loop-i l = without_gap (drop l.i l.text) ≡ without_gap l.text
