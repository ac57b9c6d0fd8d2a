use Rattle.row_rules.proofs.Walking.{IsMapped}
use Rattle.row_rules.proofs.row_search.values_of.Given as goal

abbrev pub invariant-loop-row : goal.invariant-loop-row
invariant-loop-row g l = IsMapped g.R.Has.of_row l.rows l.row-index l.values.items
