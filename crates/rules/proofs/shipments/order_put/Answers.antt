use Rattle.std.proofs.Common.{rules}
use Rattle.rules.proofs.shipments.order_put.Goals as goal

pub returns-in-None : goal.returns-in-None
returns-in-None c = search rules

pub returns-in_ok-push_if-in-Some : goal.returns-in_ok-push_if-in-Some
returns-in_ok-push_if-in-Some c = search rules
