use Rattle.std.proofs.Common.{rules}
use Rattle.rules.proofs.counts.counted.Goals as goal

pub returns-clause-lot : goal.returns-clause-lot
returns-clause-lot c = search rules

pub returns-clause-bin : goal.returns-clause-bin
returns-clause-bin c = search rules

pub returns-clause-change : goal.returns-clause-change
returns-clause-change c = search rules
