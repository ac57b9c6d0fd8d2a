use Rattle.row_rules.proofs.Walking.{IsKept}
use Rattle.row_rules.proofs.loops.passing.Given as goal

abbrev pub invariant-loop-element : goal.invariant-loop-element
invariant-loop-element g l = IsKept (g.P.Test.test l.by) l.elements l.element-index l.kept.items
