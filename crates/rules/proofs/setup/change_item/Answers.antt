use Rattle.std.proofs.Common.{rules}
use Rattle.rules.proofs.setup.change_item.Goals as goal

pub returns : goal.returns
returns c = search rules
