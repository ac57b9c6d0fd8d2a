use Rattle.rules.proofs.Words.{OrderLine, IsCapped}
use Rattle.rules.proofs.urgent_orders.units_ordered.Given as goal

abbrev pub invariant-loop-line : goal.invariant-loop-line
invariant-loop-line l = IsCapped {X = OrderLine} (λ m. m.qty) l.lines l.line-index l.sum
