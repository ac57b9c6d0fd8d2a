use Rattle.label.proofs.Words.{ap, ◌∙◌, arith, epoch_day, signed_arith}
use Rattle.label.proofs.DayNumbers.{parts_of_civil}
use Rattle.label.proofs.day.Day.date.Goals as goal

pub overflow_cast-result : goal.overflow_cast-result
overflow_cast-result c =
    let parts = parts_of_civil c.args.self c.to_plain-date.result c.civil.ensures.range (ap epoch_day c.to_plain-date.ensures ∙ c.civil.ensures.value) in
    (omega (arith, signed_arith, parts.year, parts.within), omega (arith, signed_arith, parts.year, parts.within))

pub returns-clause-year : goal.returns-clause-year
returns-clause-year c =
    let parts = parts_of_civil c.args.self c.to_plain-date.result c.civil.ensures.range (ap epoch_day c.to_plain-date.ensures ∙ c.civil.ensures.value) in
    omega (arith, signed_arith, parts.year, parts.within)

pub returns-clause-in_range : goal.returns-clause-in_range
returns-clause-in_range c =
    let parts = parts_of_civil c.args.self c.to_plain-date.result c.civil.ensures.range (ap epoch_day c.to_plain-date.ensures ∙ c.civil.ensures.value) in
    omega (arith, signed_arith, parts.year, parts.within)

pub returns-clause-month : goal.returns-clause-month
returns-clause-month c =
    let parts = parts_of_civil c.args.self c.to_plain-date.result c.civil.ensures.range (ap epoch_day c.to_plain-date.ensures ∙ c.civil.ensures.value) in
    omega (arith, c.from.ensures, parts.month)

pub returns-clause-day : goal.returns-clause-day
returns-clause-day c =
    let parts = parts_of_civil c.args.self c.to_plain-date.result c.civil.ensures.range (ap epoch_day c.to_plain-date.ensures ∙ c.civil.ensures.value) in
    omega (arith, c.from-2.ensures, parts.day)
