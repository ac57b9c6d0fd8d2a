use Rattle.rules.proofs.Words.{◌+◌, nat_lt, OPEN_MAX, OrderLine, capped, open_units_seen, IsTested}
use Rattle.rules.proofs.customer_orders.orders_too_much.Given as goal

abbrev pub invariant-loop-line : goal.invariant-loop-line
invariant-loop-line l = IsTested {X = OrderLine} (λ m. nat_lt OPEN_MAX (capped (open_units_seen l.slice m.gtin + m.qty))) l.lines l.line-index
