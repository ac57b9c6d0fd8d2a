use Rattle.row_rules.proofs.Searching.{IsTested}
use Rattle.row_rules.proofs.row_search.has_row.Given as goal

abbrev pub invariant-loop-row : goal.invariant-loop-row
invariant-loop-row g l = IsTested (λ r. g.K.Same.same l.value (g.R.Has.of_row r)) l.rows l.row-index
