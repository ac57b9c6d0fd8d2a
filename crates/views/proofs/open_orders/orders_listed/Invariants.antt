use Rattle.views.proofs.Words.{served, is_listed}
use Rattle.views.proofs.Walks.{IsMadeAndKept}
use Rattle.views.proofs.open_orders.orders_listed.Given as goal

abbrev pub invariant-loop-order : goal.invariant-loop-order
invariant-loop-order l = IsMadeAndKept (is_listed l.seen) (served l.urgents) l.orders l.order-index l.listed.items
