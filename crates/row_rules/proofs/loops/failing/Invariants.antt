use Rattle.std.specs.Prelude.{not}
use Rattle.row_rules.proofs.Walking.{IsKept}
use Rattle.row_rules.proofs.loops.failing.Given as goal

abbrev pub invariant-loop-element : goal.invariant-loop-element
invariant-loop-element g l = IsKept (λ x. not (g.P.Test.test l.by x)) l.elements l.element-index l.kept.items
