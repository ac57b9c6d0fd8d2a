use Rattle.std.proofs.Common.{rules}
use Rattle.rules.proofs.holding.judge_release.Goals as goal

pub returns : goal.returns
returns c = search rules
