use Rattle.rows_in_memory.proofs.Words.{OrderRow, is_open_state, IsKept}
use Rattle.rows_in_memory.proofs.order_names.open_rows.Given as goal

abbrev pub invariant-loop-row : goal.invariant-loop-row
invariant-loop-row l = IsKept {X = OrderRow} (λ r. is_open_state r.state) l.rows l.row-index l.open_rows.items
