use Rattle.std.proofs.Common.{rules}
use Rattle.rules.proofs.customer_orders.judge_order.Goals as goal

pub returns : goal.returns
returns c = search rules
