use Rattle.std.proofs.Common.{rules}
use Rattle.rules.proofs.cancelling.judge_cancel.Goals as goal

pub returns : goal.returns
returns c = search rules
