use Rattle.std.proofs.Common.{rules}
use Rattle.rules.proofs.goods.judge_receive.Goals as goal

pub returns : goal.returns
returns c = search rules
