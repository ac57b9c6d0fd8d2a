use Rattle.std.proofs.Common.{rules}
use Rattle.rules.proofs.holding.judge_recall.Goals as goal

pub returns : goal.returns
returns c = search rules
