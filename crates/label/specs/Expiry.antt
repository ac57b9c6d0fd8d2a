-- Expiration dates YYMMDD by the GS1 General Specifications: Application Identifier (17), and the determination of the century in dates.
use Rattle.std.specs.Prelude.{◌≡◌, ℕ, ◌-◌, ◌+◌, ◌%◌, ◌<◌, ◌≤◌, not, ◌&&◌, ◌==◌, if◌then◌else◌, List, ◌++◌, length, drop, IsTrue, ℤ, pos, Option, Some, None, Result, Err}
use Rattle.std.specs.Option.{ok_or}
use Rattle.std.specs.Str.{all_ascii_digits}
use Rattle.jiff_core.specs.Calendar.{days_in_month}
use Rattle.label.specs.Days.{day_number, is_date, date_of, year_of_day, last_digits}
use Rattle.values.specs.declared.fault.LabelFault.{LabelFault}
use Rattle.values.specs.declared.fault.LabelFault.TheVariants.{CutShort, NotADigit, NoSuchDate}
pub use Rattle.label.specs.Days.{two_digits}

-- the first year with these last two digits from 49 years before the present one on: it lies at most 50 years after it
abbrev pub full_year : ℕ → ℕ → ℕ
full_year now yy = let first = now - 49 in first + (100 + yy - first % 100) % 100

-- day 00 is the last of the month
abbrev pub day_in_month : ℕ → ℕ → ℕ → ℕ
day_in_month y m dd = if dd == 0 then days_in_month (pos y) m else dd

-- the expiry day that six digits YYMMDD name when the business day is today, if they name one
abbrev pub expiry_day : ℤ → List ℕ → Option ℤ
expiry_day today s =
    let y = full_year (year_of_day today) (two_digits s) in
    let m = two_digits (drop 2 s) in
    let d = day_in_month y m (two_digits (drop 4 s)) in
    if (length s == 6) && all_ascii_digits s && is_date y m d then Some (day_number y m d) else None

-- The same in the words of the standard, with no formula for the year. The digits YY are the last two of a year from
-- 49 years before to 50 years after that of the business day, MM is a month of it, and DD a day of the month, or 00
-- for its last day.
pub record IsExpiry (today : ℤ) (s : List ℕ) (expiry : ℤ) : Type 0 where
  pub year : ℕ
  pub month : ℕ
  pub day : ℕ
  pub six : length s ≡ 6
  pub digits : IsTrue (all_ascii_digits s)
  pub year_ends : year % 100 ≡ two_digits s
  pub year_from : year_of_day today ≤ year + 49
  pub year_to : year ≤ year_of_day today + 50
  pub month_is : month ≡ two_digits (drop 2 s)
  pub month_from : 1 ≤ month
  pub month_to : month ≤ 12
  pub day_is : 0 < two_digits (drop 4 s) → day ≡ two_digits (drop 4 s)
  pub day_last : two_digits (drop 4 s) ≡ 0 → day ≡ days_in_month (pos year) month
  pub day_from : 1 ≤ day
  pub day_to : day ≤ days_in_month (pos year) month
  pub is : expiry ≡ day_number year month day

-- what reading an expiration date gives: the day, or the first fault
unfoldable pub expiry_read : ℤ → List ℕ → Result ℤ LabelFault
expiry_read today s =
    if not (length s == 6) then Err CutShort
    else (if not (all_ascii_digits s) then Err NotADigit else ok_or (expiry_day today s) NoSuchDate)

-- `YYMMDD`
abbrev pub expiry_text : ℤ → List ℕ
expiry_text n = let d = date_of n in last_digits 2 d.year ++ last_digits 2 d.month ++ last_digits 2 d.day

-- the year of the day lies from 49 years before to 50 years after that of the business day
pub record IsWithinCentury (today day : ℤ) : Type 0 where
  pub from : year_of_day today ≤ year_of_day day + 49
  pub to : year_of_day day ≤ year_of_day today + 50
