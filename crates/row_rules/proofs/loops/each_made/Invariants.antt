use Rattle.row_rules.proofs.Walking.{IsMapped}
use Rattle.row_rules.proofs.loops.each_made.Given as goal

abbrev pub invariant-loop-element : goal.invariant-loop-element
invariant-loop-element g l = IsMapped (g.M.Make.made l.by) l.elements l.element-index l.made.items
