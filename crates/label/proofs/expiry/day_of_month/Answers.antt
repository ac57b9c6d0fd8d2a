use Rattle.std.proofs.Common.{rules}
use Rattle.label.proofs.expiry.day_of_month.Goals as goal

pub returns-then-day-eq0 : goal.returns-then-day-eq0
returns-then-day-eq0 c = search rules

pub returns-else-day-eq0 : goal.returns-else-day-eq0
returns-else-day-eq0 c = search rules
