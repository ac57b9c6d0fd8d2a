use Rattle.std.proofs.Common.{rules}
use Rattle.rules.proofs.picking.judge_unpick.Goals as goal

pub returns : goal.returns
returns c = search rules
