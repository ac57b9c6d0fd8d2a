use Rattle.rows_in_memory.proofs.Words.{OrderRow, IsKept, has_line_in}
use Rattle.rows_in_memory.proofs.order_rows.with_own_lines.Given as goal

abbrev pub invariant-loop-order : goal.invariant-loop-order
invariant-loop-order l = IsKept {X = OrderRow} (λ r. has_line_in l.lines r.order) l.orders l.order-index l.rows.items
