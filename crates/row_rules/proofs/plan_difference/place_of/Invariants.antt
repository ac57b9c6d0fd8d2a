use Rattle.row_rules.proofs.Words.{Row, same_row}
use Rattle.row_rules.proofs.Searching.{IsTested}
use Rattle.row_rules.proofs.plan_difference.place_of.Given as goal

abbrev pub invariant-loop-index : goal.invariant-loop-index
invariant-loop-index l = IsTested {X = Row} (same_row l.row) l.others l.index
