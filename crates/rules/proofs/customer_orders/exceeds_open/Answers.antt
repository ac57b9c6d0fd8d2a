use Rattle.std.proofs.Common.{rules}
use Rattle.rules.proofs.customer_orders.exceeds_open.Goals as goal

pub returns : goal.returns
returns c = search rules
