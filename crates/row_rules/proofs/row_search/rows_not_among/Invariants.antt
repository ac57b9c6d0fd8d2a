use Rattle.row_rules.proofs.Words.{not, list_any}
use Rattle.row_rules.proofs.Walking.{IsKept}
use Rattle.row_rules.proofs.row_search.rows_not_among.Given as goal

abbrev pub invariant-loop-row : goal.invariant-loop-row
invariant-loop-row g l = IsKept (λ r. not (list_any (λ o. g.K.Same.same (g.R.Has.of_row r) (g.O.Has.of_row o)) l.others)) l.rows l.row-index l.left.items
