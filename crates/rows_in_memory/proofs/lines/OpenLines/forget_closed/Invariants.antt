use Rattle.rows_in_memory.proofs.Words.{◌&&◌, drop, same_text, OrderRow, is_closed_state, has_line_row}
use Rattle.rows_in_memory.proofs.Stepping.{Losing}
use Rattle.rows_in_memory.proofs.lines.OpenLines.forget_closed.Given as goal

abbrev pub invariant-loop-order : goal.invariant-loop-order
invariant-loop-order l = Losing {X = OrderRow} (λ r g o. (same_text o r.order && is_closed_state r.state) && has_line_row l.lines g o) l.orders (drop l.order-index l.orders) l.initial.self l.self
