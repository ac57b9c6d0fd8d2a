use Rattle.rows_in_memory.proofs.Words.{OrderRow, IsKept, is_among}
use Rattle.rows_in_memory.proofs.urgent_rows.with_own_names.Given as goal

abbrev pub invariant-loop-order : goal.invariant-loop-order
invariant-loop-order l = IsKept {X = OrderRow} (λ r. is_among l.names r.order) l.orders l.order-index l.rows.items
