use Rattle.machine.proofs.histories.ClosedOrders as orders
use Rattle.machine.proofs.laws.closed_orders_are_empty.Goals as goal

pub returns : goal.returns
returns c = orders.closed_orders_are_empty
