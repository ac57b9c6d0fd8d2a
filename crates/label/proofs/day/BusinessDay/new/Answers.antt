use Rattle.std.proofs.Common.{rules}
use Rattle.label.proofs.day.BusinessDay.new.Goals as goal

pub invariant_of-result : goal.invariant_of-result
invariant_of-result c = search rules

pub returns-then-is_business : goal.returns-then-is_business
returns-then-is_business c = search rules

pub returns-else-is_business : goal.returns-else-is_business
returns-else-is_business c = search rules
