use Rattle.std.proofs.Common.{rules}
use Rattle.rules.proofs.moves.is_missing.Goals as goal

pub returns : goal.returns
returns c = search rules
