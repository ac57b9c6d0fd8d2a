use Rattle.rows_in_memory.proofs.Words.{LineRow, IsKept, has_urgent_row}
use Rattle.rows_in_memory.proofs.urgent_rows.with_own_urgents.Given as goal

abbrev pub invariant-loop-line : goal.invariant-loop-line
invariant-loop-line l = IsKept {X = LineRow} (λ r. has_urgent_row l.urgents r.order) l.lines l.line-index l.rows.items
