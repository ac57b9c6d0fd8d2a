use Rattle.std.proofs.Common.{rules}
use Rattle.rules.proofs.picking.less.Goals as goal

pub returns : goal.returns
returns c = search rules
