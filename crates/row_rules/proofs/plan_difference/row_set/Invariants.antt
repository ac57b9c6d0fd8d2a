use Rattle.row_rules.proofs.Words.{take, HasRows}
use Rattle.row_rules.proofs.plan_difference.row_set.Given as goal

abbrev pub invariant-loop-row : goal.invariant-loop-row
invariant-loop-row l = HasRows l.set (take l.row-index l.rows)
