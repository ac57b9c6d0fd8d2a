use Rattle.machine.proofs.histories.UrgentFirst.{urgent_orders_come_first}
use Rattle.machine.proofs.laws.urgent_orders_come_first.Goals as goal

pub returns : goal.returns
returns c = urgent_orders_come_first
