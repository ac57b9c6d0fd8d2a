use Rattle.label.proofs.Words.{pos, sym, arith, rules, common_steps, days_in_month}
use Rattle.label.proofs.DayNumbers.{dated_day-outside}
use Rattle.label.proofs.expiry.last_of_month.Goals as goal

pub returns-then-year-gt9999 : goal.returns-then-year-gt9999
returns-then-year-gt9999 c =
    sym (dated_day-outside c.args.year c.args.month (days_in_month (pos c.args.year) c.args.month) (λ within. omega (arith, within.0, within.1)))

pub returns-in-Ok : goal.returns-in-Ok
returns-in-Ok c = grind (arith, common_steps)

pub returns-in-Err : goal.returns-in-Err
returns-in-Err c = search rules
