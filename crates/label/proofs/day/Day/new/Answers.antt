use Rattle.std.proofs.Common.{rules}
use Rattle.label.proofs.day.Day.new.Goals as goal

pub invariant_of-result : goal.invariant_of-result
invariant_of-result c = search rules

pub overflow_cast-result : goal.overflow_cast-result
overflow_cast-result c = search rules

pub returns-then-number-le102267 : goal.returns-then-number-le102267
returns-then-number-le102267 c = search rules

pub returns-else-number-geminus6940 : goal.returns-else-number-geminus6940
returns-else-number-geminus6940 c = search rules
