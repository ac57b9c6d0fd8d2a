use Rattle.std.proofs.Common.{rules}
use Rattle.rules.proofs.counts.judge_adjust.Goals as goal

pub returns : goal.returns
returns c = search rules
