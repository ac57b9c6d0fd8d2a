-- Days of the proleptic Gregorian calendar, by their numbers. Day 0 is 1970-01-01.
use Rattle.std.specs.Prelude.{ℕ, zero, suc, ◌-◌, ◌+◌, ◌*◌, ◌/◌, ◌%◌, Bool, ◌&&◌, ◌==◌, if◌then◌else◌, nat_lt, nat_le, slice_index, List, [], ◌∷◌, ◌++◌, length, take, drop, ℤ, pos, negsuc, int_le, ◌+ℤ◌, unsigned_abs, Option, None}
use Rattle.std.specs.Str.{all_ascii_digits}
use Rattle.jiff_core.specs.Calendar.{days_from_civil, days_in_month, days_in_year}
use Rattle.values.specs.Values.{checked}

-- the days that a `Day` may be, 1951-01-01 to 2249-12-31, and those that books may have, 2000-01-01 to 2199-12-31
abbrev pub is_day : ℤ → Bool
is_day n = int_le (negsuc 6939) n && int_le n (pos 102_267)

abbrev pub is_business_day : ℤ → Bool
is_business_day n = int_le (pos 10_957) n && int_le n (pos 84_005)

-- the day number of a date
abbrev pub day_number : ℕ → ℕ → ℕ → ℤ
day_number y m d = days_from_civil (pos y) m d

-- the calendar has this day
abbrev pub is_date : ℕ → ℕ → ℕ → Bool
is_date y m d = nat_le 1 m && nat_le m 12 && nat_le 1 d && nat_le d (days_in_month (pos y) m)

pub record Date : Type 0 where
  pub year : ℕ
  pub month : ℕ
  pub day : ℕ

-- the date that lies n days after the first of month m of the year y, looking at k further months
unfoldable pub date_in_year : ℕ → ℕ → ℕ → ℕ → Date
date_in_year zero y m n = record { year = y; month = m; day = n + 1 }
date_in_year (suc k) y m n =
    if nat_lt n (days_in_month (pos y) m) then record { year = y; month = m; day = n + 1 }
    else date_in_year k y (m + 1) (n - days_in_month (pos y) m)

-- the date that lies n days after 1 January of the year y, looking at k further years
unfoldable pub date_after : ℕ → ℕ → ℕ → Date
date_after zero y n = date_in_year 11 y 1 n
date_after (suc k) y n =
    if nat_lt n (days_in_year (pos y)) then date_in_year 11 y 1 n
    else date_after k (y + 1) (n - days_in_year (pos y))

-- the date of a day number from 1951-01-01 to 2249-12-31
unfoldable pub date_of : ℤ → Date
date_of n = date_after 298 1951 (unsigned_abs (n +ℤ pos 6940))

abbrev pub year_of_day : ℤ → ℕ
year_of_day n = (date_of n).year

-- the day of a date, if the calendar has it and it lies from 1951-01-01 to 2249-12-31
abbrev pub dated_day : ℕ → ℕ → ℕ → Option ℤ
dated_day y m d = if is_date y m d then checked is_day (day_number y m d) else None

-- the n lowest decimal digits of a number, the highest first
abbrev pub last_digits : ℕ → ℕ → List ℕ
last_digits zero x = []
last_digits (suc n) x = last_digits n (x / 10) ++ (48 + x % 10) ∷ []

-- `YYYY-MM-DD`
abbrev pub day_text : ℤ → List ℕ
day_text n = let d = date_of n in
    last_digits 4 d.year ++ 45 ∷ last_digits 2 d.month ++ 45 ∷ last_digits 2 d.day

-- the number that the first two bytes of a text write, if they are digits
abbrev pub two_digits : List ℕ → ℕ
two_digits [] = 0
two_digits (a ∷ []) = 0
two_digits (a ∷ b ∷ cs) = 10 * (a - 48) + (b - 48)

-- ten bytes: four digits, a dash, two digits, a dash, two digits
abbrev pub is_day_form : List ℕ → Bool
is_day_form s =
    (length s == 10) && (slice_index s 4 == 45) && (slice_index s 7 == 45)
    && all_ascii_digits (take 4 s) && all_ascii_digits (take 2 (drop 5 s)) && all_ascii_digits (drop 8 s)

-- the day from 1951-01-01 to 2249-12-31 that a text `YYYY-MM-DD` names, if it names one
abbrev pub parsed_day : List ℕ → Option ℤ
parsed_day s =
    if is_day_form s then dated_day (100 * two_digits s + two_digits (drop 2 s)) (two_digits (drop 5 s)) (two_digits (drop 8 s))
    else None
