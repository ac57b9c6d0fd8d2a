use Rattle.std.proofs.Common.{rules}
use Rattle.rules.proofs.setup.judge_bin.Goals as goal

pub returns : goal.returns
returns c = search rules
