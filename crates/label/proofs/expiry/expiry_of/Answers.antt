use Rattle.label.proofs.Words.{◌≡◌, ◌∙◌, arith, true, length, ap, rules, all_ascii_digits, year_of_day, two_digits, full_year, expiry_read}
use Rattle.label.proofs.ExpiryRule.{business_is, expiry_read-dated, expiry_read-rule}
use Rattle.label.proofs.expiry.expiry_of.Goals as goal

pub full_year-year-requires-clause-from : goal.full_year-year-requires-clause-from
full_year-year-requires-clause-from c =
    let business = business_is c.args.today c.requires in
    omega (arith, c.year.ensures.value, business.year_low)

value : (c : goal.After-ok_or) → c.ok_or.result ≡ expiry_read c.args.today c.args.yymmdd.now
value c =
    let s = c.args.yymmdd.now in
    let six : length s ≡ 6 = omega arith in
    let digits : all_ascii_digits s ≡ true = search rules in
    let year : c.full_year-year.result ≡ full_year (year_of_day c.args.today) (two_digits s) =
    c.full_year-year.ensures.value ∙ ap (λ q. full_year q c.two_digits.result) c.year.ensures.value
    ∙ ap (full_year (year_of_day c.args.today)) c.two_digits.ensures.value in
    expiry_read-dated c.args.today s c.full_year-year.result c.two_digits-2.result c.two_digits-3.result c.day_of_month-day.result c.ok_or.result
    c.requires six digits year c.two_digits-2.ensures.value c.two_digits-3.ensures.value c.day_of_month-day.ensures c.ok_or.ensures.value

pub returns-clause-value : goal.returns-clause-value
returns-clause-value c = value c

pub returns-clause-rule : goal.returns-clause-rule
returns-clause-rule c = expiry_read-rule c.args.today c.args.yymmdd.now c.ok_or.result c.requires (value c)
