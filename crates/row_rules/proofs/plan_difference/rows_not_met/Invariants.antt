use Rattle.row_rules.proofs.RowsApart.{IsLeft}
use Rattle.row_rules.proofs.plan_difference.rows_not_met.Given as goal

abbrev pub invariant-loop-row : goal.invariant-loop-row
invariant-loop-row l = IsLeft l.others l.rows l.row-index l.left.items
