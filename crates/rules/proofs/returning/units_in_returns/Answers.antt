use Rattle.std.proofs.Common.{rules}
use Rattle.rules.proofs.returning.units_in_returns.Goals as goal

pub returns-requires : goal.returns-requires
returns-requires c = search rules

pub returns : goal.returns
returns c = search rules
