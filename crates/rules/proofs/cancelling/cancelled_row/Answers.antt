use Rattle.std.proofs.Common.{rules}
use Rattle.rules.proofs.cancelling.cancelled_row.Goals as goal

pub returns-in-None : goal.returns-in-None
returns-in-None c = search rules

pub returns-in_ok-push-in-Some : goal.returns-in_ok-push-in-Some
returns-in_ok-push-in-Some c = search rules
