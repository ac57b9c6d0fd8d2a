use Rattle.rows_in_memory.proofs.Words.{◌≡◌, ◌&&◌, List, length, drop, sym, ap, subst, ◌∙◌, arith, drop-length, same_text, OrderRow, has_line_row, has_closed_row, is_closed_state}
use Rattle.rows_in_memory.proofs.Stepping.{Losing, lost, loses_as, any_and_last}
use Rattle.rows_in_memory.proofs.lines.OpenLines.forget_closed.Goals as goal

pub returns : goal.returns
returns c =
    let orders = c.args.orders.now in
    let lines = c.args.lines.now in
    let end : c.loop-order.order-index ≡ length orders = omega (arith, c.loop-order-test.false, c.loop-order.auto.order-index-end) in
    loses_as _ (λ g o. has_closed_row orders o && has_line_row lines g o) c.args.self.now c.loop-order.self (λ g o. sym (any_and_last {X = OrderRow} (has_line_row lines g o) (λ r. same_text o r.order && is_closed_state r.state) orders))
    (lost {X = OrderRow} (λ r g o. (same_text o r.order && is_closed_state r.state) && has_line_row lines g o) orders c.args.self.now c.loop-order.self
    (subst (λ (l : List OrderRow). Losing {X = OrderRow} (λ r g o. (same_text o r.order && is_closed_state r.state) && has_line_row lines g o) orders l c.args.self.now c.loop-order.self) (ap (λ n. drop n orders) end ∙ drop-length orders) c.loop-order.invariant))
