use Rattle.std.proofs.Common.{◌≡◌, ℕ, ◌/◌, refl, arith}
use Rattle.label.proofs.day.Day.text.Goals as goal

hundreds : (y : ℕ) → y / 100 ≡ y / 10 / 10
hundreds y = omega arith

thousands : (y : ℕ) → y / 1000 ≡ y / 10 / 10 / 10
thousands y = omega arith

pub returns : goal.returns
returns c =
    let date = c.date-year.ensures in
    rw (c.digit.ensures, c.digit-2.ensures, c.digit-3.ensures, c.digit-4.ensures, c.digit-5.ensures, c.digit-6.ensures, c.digit-7.ensures, c.digit-8.ensures)
    rw (thousands c.date-year.result.year, hundreds c.date-year.result.year, date.year, date.month, date.day) refl
