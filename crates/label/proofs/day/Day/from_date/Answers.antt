use Rattle.std.proofs.Common.{sym, arith}
use Rattle.label.proofs.DayNumbers.{dated_day-outside}
use Rattle.label.proofs.day.Day.from_date.Goals as goal

pub returns-then-year-gt9999 : goal.returns-then-year-gt9999
returns-then-year-gt9999 c = sym (dated_day-outside c.args.year c.args.month c.args.day (λ within. omega arith))
