use Rattle.rules.proofs.Words.{not, OrderLine, sees_item, IsTested}
use Rattle.rules.proofs.customer_orders.misses_item.Given as goal

abbrev pub invariant-loop-line : goal.invariant-loop-line
invariant-loop-line l = IsTested {X = OrderLine} (λ m. not (sees_item l.slice m.gtin)) l.lines l.line-index
