use Rattle.label.proofs.Words.{◌≡◌, ◌+◌, ◌*◌, true, ◌∙◌, ap, rules, is_day_form, parsed_day}
use Rattle.label.proofs.DayTexts.{parsed_day-parts, parsed_day-written, parsed_day-day_text}
use Rattle.label.proofs.day.Day.parse.Goals as goal

value : (c : goal.After-from_date) → c.from_date.result ≡ parsed_day c.args.text.now
value c =
    let form : is_day_form c.args.text.now ≡ true = search rules in
    c.from_date.ensures
    ∙ parsed_day-parts c.args.text.now (100 * c.two_digits.result + c.two_digits-2.result) c.two_digits-3.result c.two_digits-4.result
    form (cc) c.two_digits-3.ensures.value c.two_digits-4.ensures.value

pub returns-clause-value : goal.returns-clause-value
returns-clause-value c = value c

pub returns-clause-written : goal.returns-clause-written
returns-clause-written c = parsed_day-written c.args.text.now c.from_date.result (value c)

pub returns-clause-every : goal.returns-clause-every
returns-clause-every c = λ day h e. value c ∙ ap parsed_day e ∙ parsed_day-day_text day h
