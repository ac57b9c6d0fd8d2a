use Rattle.rules.proofs.Words.{LineRow, lacks_units, IsTested}
use Rattle.rules.proofs.shipments.any_lacks_units.Given as goal

abbrev pub invariant-loop-row : goal.invariant-loop-row
invariant-loop-row l = IsTested {X = LineRow} lacks_units l.rows l.row-index
