use Rattle.std.proofs.Common.{rules}
use Rattle.rules.proofs.holding.with_hold.Goals as goal

pub returns : goal.returns
returns c = search rules
