use Rattle.std.proofs.Common.{rules}
use Rattle.label.proofs.day.Day.is_business.Goals as goal

pub returns-then-self-ge10957 : goal.returns-then-self-ge10957
returns-then-self-ge10957 c = search rules

pub returns-else-self-ge10957 : goal.returns-else-self-ge10957
returns-else-self-ge10957 c = search rules
