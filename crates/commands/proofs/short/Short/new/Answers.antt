use Rattle.std.proofs.Common.{rules}
use Rattle.commands.proofs.short.Short.new.Goals as goal

pub invariant_of-result : goal.invariant_of-result
invariant_of-result c = search rules

pub returns-in-Some-clause-fits : goal.returns-in-Some-clause-fits
returns-in-Some-clause-fits c = search rules

pub returns-in-Some-clause-long : goal.returns-in-Some-clause-long
returns-in-Some-clause-long c = search rules
