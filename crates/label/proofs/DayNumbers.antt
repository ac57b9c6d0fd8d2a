-- Day numbers and dates are inverse to each other from 1951-01-01 to 2249-12-31.
use Rattle.label.proofs.Words.{◌≡◌, ℕ, zero, suc, ◌&&◌, ◌+◌, ◌-◌, ◌<◌, ◌≤◌, inl, inr, Bool, true, false, IsTrue, nat_lt, nat_le, refl, sym, subst, ap, ◌∙◌, arith, ℤ, pos, negsuc, ◌+ℤ◌, ◌≤ℤ◌, unsigned_abs, int_le, Decides, Option, None, if◌then◌else◌, cond-false, and_right, lt-leb, true_from_ne_false, cases_lt, cases_order, cond_both, ltb-true, ltb-false, and_parts, and_from, leb-true, le-leb, nat_tests, same_from_decides, days_in_month, days_in_year, days_of_months, day_of_year, day_count, IsCivilDate, days_from_civil-day_count, days_in_month_bounds, days_of_months_more, days_of_months_all, days_of_months-zero, day_count-day_of_year, day_count-next_year, day_count-later_year, day_count-lt_year, day_count-lt_month, day_count-day, IsYmd, epoch_day, checked, is_between}
use Rattle.jiff_core.proofs.MarchLemmas.{day_count-early}
use Rattle.jiff_core.proofs.SignedLemmas.{signed_arith, one_part}
use borrow.Author.Differences.{up, down, le-true, le-false}
use Rattle.jiff.specs.Types.{Date as CivilDate}
use Rattle.jiff.proofs.Family.{epoch_day_injective}
use Rattle.jiff.proofs.OnLiterals.{jiff_on_literals}
use Rattle.label.specs.Days.{is_day, is_business_day, day_number, is_date, Date, date_in_year, date_after, date_of, dated_day}

-- the date is in the year y and has n days of that year before it
record IsInYear (y n : ℕ) (d : Date) : Type 0 where
  year : d.year ≡ y
  month_low : 1 ≤ d.month
  month_high : d.month ≤ 12
  day_low : 1 ≤ d.day
  day_high : d.day ≤ days_in_month (pos y) d.month
  place : day_of_year (pos y) d.month d.day ≡ n + 1

date_in_year-suc : (k y m n : ℕ) → date_in_year (suc k) y m n ≡ (if nat_lt n (days_in_month (pos y) m) then record { year = y; month = m; day = n + 1 } else date_in_year k y (m + 1) (n - days_in_month (pos y) m))
unfolding date_in_year
date_in_year-suc k y m n = refl

date_in_year-zero : (y m n : ℕ) → date_in_year 0 y m n ≡ record { year = y; month = m; day = n + 1 }
unfolding date_in_year
date_in_year-zero y m n = refl

in_month : (y m n : ℕ) → 1 ≤ m → m ≤ 12 → n < days_in_month (pos y) m → IsInYear y (days_of_months (pos y) (m - 1) + n) (record { year = y; month = m; day = n + 1 })
in_month y m n low high h = record { year = refl; month_low = low; month_high = high; day_low = omega arith; day_high = omega arith; place = omega arith }

date_in_year_is : (k y m n : ℕ) → 1 ≤ m → m + k ≡ 12 → days_of_months (pos y) (m - 1) + n < days_in_year (pos y) → IsInYear y (days_of_months (pos y) (m - 1) + n) (date_in_year k y m n)
date_in_year_is zero y m n low last h =
    let twelve : m ≡ 12 = omega arith in
    let all = days_of_months_all (pos y) in
    let room : n < days_in_month (pos y) m = omega (arith, days_of_months_more (pos y) m low, ap (days_of_months (pos y)) twelve) in
    subst (IsInYear y (days_of_months (pos y) (m - 1) + n)) (sym (date_in_year-zero y m n)) (in_month y m n low (omega arith) room)
date_in_year_is (suc k) y m n low last h =
    let b = nat_lt n (days_in_month (pos y) m) in
    let more = days_of_months_more (pos y) m low in
    let P = λ (d : Date). IsInYear y (days_of_months (pos y) (m - 1) + n) d in
    subst P (sym (date_in_year-suc k y m n))
    (cond_both b _ _ P
    (λ e. in_month y m n low (omega arith) (ltb-true _ _ e))
    (λ e.
    let over : days_in_month (pos y) m ≤ n = ltb-false _ _ e in
    let back : m + 1 - 1 ≡ m = omega arith in
    let same : days_of_months (pos y) (m + 1 - 1) + (n - days_in_month (pos y) m) ≡ days_of_months (pos y) (m - 1) + n = rw back (omega arith) in
    subst (λ (q : ℕ). IsInYear y q (date_in_year k y (m + 1) (n - days_in_month (pos y) m))) same
    (date_in_year_is k y (m + 1) (n - days_in_month (pos y) m) (omega arith) (omega arith) (rw same h))))

-- the date lies n days after 1 January of the year y, and not after the year last
record IsAfter (y last n : ℕ) (d : Date) : Type 0 where
  year_low : y ≤ d.year
  year_high : d.year ≤ last
  month_low : 1 ≤ d.month
  month_high : d.month ≤ 12
  day_low : 1 ≤ d.day
  day_high : d.day ≤ days_in_month (pos d.year) d.month
  count : day_count (pos d.year) d.month d.day ≡ day_count (pos y) 1 1 + n

after_from_year : (y last n : ℕ) (d : Date) → y ≤ last → IsInYear y n d → IsAfter y last n d
after_from_year y last n d h i =
    let count : day_count (pos y) d.month d.day ≡ day_count (pos y) 1 1 + n = omega (arith, day_count-day_of_year (pos y) d.month d.day i.day_low, i.place) in
    record {
      year_low = omega (arith, i.year);
      year_high = omega (arith, i.year);
      month_low = i.month_low;
      month_high = i.month_high;
      day_low = i.day_low;
      day_high = rw i.year i.day_high;
      count = rw i.year count;
    }

within_year : (y last n : ℕ) → y ≤ last → n < days_in_year (pos y) → IsAfter y last n (date_in_year 11 y 1 n)
within_year y last n h room =
    let none = days_of_months-zero (pos y) in
    let start : days_of_months (pos y) (1 - 1) + n ≡ n = omega arith in
    after_from_year y last n (date_in_year 11 y 1 n) h
    (subst (λ (q : ℕ). IsInYear y q (date_in_year 11 y 1 n)) start (date_in_year_is 11 y 1 n (omega arith) (omega arith) (rw start room)))

date_after-suc : (k y n : ℕ) → date_after (suc k) y n ≡ (if nat_lt n (days_in_year (pos y)) then date_in_year 11 y 1 n else date_after k (y + 1) (n - days_in_year (pos y)))
unfolding date_after
date_after-suc k y n = refl

date_after-zero : (y n : ℕ) → date_after 0 y n ≡ date_in_year 11 y 1 n
unfolding date_after
date_after-zero y n = refl

next_year : (y : ℕ) → day_count (pos (y + 1)) 1 1 ≡ day_count (pos y) 1 1 + days_in_year (pos y)
next_year y = day_count-next_year (pos y) (pos (y + 1)) (omega (arith, signed_arith)) refl

date_after_is : (k y n : ℕ) → day_count (pos y) 1 1 + n < day_count (pos (y + k + 1)) 1 1 → IsAfter y (y + k) n (date_after k y n)
date_after_is zero y n h =
    let same : y + 0 + 1 ≡ y + 1 = omega arith in
    let room : n < days_in_year (pos y) = omega (arith, next_year y, rw same at h) in
    subst (IsAfter y (y + 0) n) (sym (date_after-zero y n)) (within_year y (y + 0) n (omega arith) room)
date_after_is (suc k) y n h =
    let P = λ (d : Date). IsAfter y (y + suc k) n d in
    subst P (sym (date_after-suc k y n))
    (cond_both (nat_lt n (days_in_year (pos y))) _ _ P
    (λ e. within_year y (y + suc k) n (omega arith) (ltb-true _ _ e))
    (λ e.
    let over : days_in_year (pos y) ≤ n = ltb-false _ _ e in
    let later : y + suc k + 1 ≡ y + 1 + k + 1 = omega arith in
    let next = next_year y in
    let rest : day_count (pos (y + 1)) 1 1 + (n - days_in_year (pos y)) < day_count (pos (y + 1 + k + 1)) 1 1 = omega (arith, rw later at h) in
    let i = date_after_is k (y + 1) (n - days_in_year (pos y)) rest in
    record {
      year_low = omega (arith, i.year_low);
      year_high = omega (arith, i.year_high);
      month_low = i.month_low;
      month_high = i.month_high;
      day_low = i.day_low;
      day_high = i.day_high;
      count = omega (arith, i.count);
    }))

start_1951 : day_count (pos 1951) 1 1 ≡ 4_365_013
start_1951 = day_count-early (pos 1951) 11950 1 1 refl (omega arith) (omega arith) (omega arith)

start_2000 : day_count (pos 2000) 1 1 ≡ 4_382_910
start_2000 = day_count-early (pos 2000) 11999 1 1 refl (omega arith) (omega arith) (omega arith)

start_2200 : day_count (pos 2200) 1 1 ≡ 4_455_959
start_2200 = day_count-early (pos 2200) 12199 1 1 refl (omega arith) (omega arith) (omega arith)

start_2250 : day_count (pos 2250) 1 1 ≡ 4_474_221
start_2250 = day_count-early (pos 2250) 12249 1 1 refl (omega arith) (omega arith) (omega arith)

-- what holds of the date of a day
pub record IsDateOf (n : ℤ) (d : Date) : Type 0 where
  pub year_low : 1951 ≤ d.year
  pub year_high : d.year ≤ 2249
  pub month_low : 1 ≤ d.month
  pub month_high : d.month ≤ 12
  pub day_low : 1 ≤ d.day
  pub day_high : d.day ≤ days_in_month (pos d.year) d.month
  pub number : day_number d.year d.month d.day ≡ n

pub day_bounds : (n : ℤ) → IsTrue (is_day n) → (negsuc 6939 ≤ℤ n) × (n ≤ℤ pos 102_267)
day_bounds (pos k) h = let top : k ≤ 102_267 = grind (arith, nat_tests) in (omega (arith, signed_arith), omega (arith, signed_arith))
day_bounds (negsuc k) h = let top : k ≤ 6939 = grind (arith, nat_tests) in (omega (arith, signed_arith), omega (arith, signed_arith))

date_of-after : (n : ℤ) → date_of n ≡ date_after 298 1951 (unsigned_abs (n +ℤ pos 6940))
unfolding date_of
date_of-after n = refl

pub date_of_is : (n : ℤ) → IsTrue (is_day n) → IsDateOf n (date_of n)
date_of_is n h =
    let k = unsigned_abs (n +ℤ pos 6940) in
    let within = day_bounds n h in
    let k_is : k + down n ≡ up n + 6940 = omega (arith, signed_arith, one_part (n +ℤ pos 6940)) in
    let room : day_count (pos 1951) 1 1 + k < day_count (pos 2250) 1 1 = omega (arith, signed_arith, start_1951, start_2250) in
    let i = date_after_is 298 1951 k room in
    let d = date_after 298 1951 k in
    subst (IsDateOf n) (sym (date_of-after n)) (record {
      year_low = i.year_low;
      year_high = omega (arith, i.year_high);
      month_low = i.month_low;
      month_high = i.month_high;
      day_low = i.day_low;
      day_high = i.day_high;
      number = omega (arith, signed_arith, days_from_civil-day_count (pos d.year) d.month d.day, i.count, start_1951);
    })

-- the parts of a test of dates
pub record IsDateParts (y m d : ℕ) : Type 0 where
  pub month_low : 1 ≤ m
  pub month_high : m ≤ 12
  pub day_low : 1 ≤ d
  pub day_high : d ≤ days_in_month (pos y) m

pub is_date-parts : (y m d : ℕ) → is_date y m d ≡ true → IsDateParts y m d
is_date-parts y m d h =
    let b = and_parts (nat_le 1 m && nat_le m 12 && nat_le 1 d) (nat_le d (days_in_month (pos y) m)) h in
    let c = and_parts (nat_le 1 m && nat_le m 12) (nat_le 1 d) b.0 in
    let e = and_parts (nat_le 1 m) (nat_le m 12) c.0 in
    record { month_low = leb-true _ _ e.0; month_high = leb-true _ _ e.1; day_low = leb-true _ _ c.1; day_high = leb-true _ _ b.1 }

pub is_date-true : (y m d : ℕ) → IsDateParts y m d → is_date y m d ≡ true
is_date-true y m d h =
    and_from _ _ (and_from _ _ (and_from _ _ (le-leb _ _ h.month_low) (le-leb _ _ h.month_high)) (le-leb _ _ h.day_low)) (le-leb _ _ h.day_high)

civil : (y m d : ℕ) → y ≤ 9999 → IsDateParts y m d → IsCivilDate (pos y) m d
civil y m d h p = ((omega (arith, signed_arith), omega (arith, signed_arith)), (p.month_low, p.month_high), (p.day_low, p.day_high))

-- a year ends before the next begins
day_number_before : (y m d later : ℕ) → y ≤ 9999 → IsDateParts y m d → y < later → day_count (pos y) m d < day_count (pos later) 1 1
day_number_before y m d later h p lt = day_count-lt_year (pos y) m d (pos later) 1 1 (civil y m d h p) (omega arith) (omega (arith, signed_arith))

day_count-from_year : (y m d first : ℕ) → IsDateParts y m d → first ≤ y → day_count (pos first) 1 1 ≤ day_count (pos y) m d
day_count-from_year y m d first p h =
    elim (cases_lt first y) [
      | inl lt ↦ omega (arith, day_count-later_year (pos first) (pos y) (omega (arith, signed_arith)) (omega (arith, signed_arith)), day_count-day_of_year (pos y) m d p.day_low)
      | inr le ↦ let same : first ≡ y = omega arith in rw same (omega (arith, day_count-day_of_year (pos y) m d p.day_low))
    ]

test_by : (b : Bool) (P : Type 0) → (b ≡ true → P) → (b ≡ false → P → ⊥) → Decides b P
test_by b P shows refutes = (shows, λ p. true_from_ne_false b (λ e. refutes e p))

-- a date lies from the day number `first` to `last`, those of 1 January of the year low and 31 December of the year high, exactly if its year does
between_years : (y m d low high : ℕ) (first last : ℤ) → low ≤ 9999 → high ≤ 9998 → IsDateParts y m d
    → up first + 4_371_953 ≡ down first + day_count (pos low) 1 1 → up last + 4_371_954 ≡ down last + day_count (pos (high + 1)) 1 1
    → (int_le first (day_number y m d) && int_le (day_number y m d) last) ≡ is_between low high y
between_years y m d low high first last h k p starts ends =
    let z = day_number y m d in
    let number = days_from_civil-day_count (pos y) m d in
    let from : int_le first z ≡ nat_le low y = same_from_decides {P = low ≤ y} _ _
    (test_by (int_le first z) (low ≤ y)
    (λ e. elim (cases_lt y low) [
      | inl lt ↦ absurd (omega (arith, signed_arith, le-true first z e, day_number_before y m d low (omega arith) p lt))
      | inr le ↦ le
    ])
    (λ e le. omega (arith, signed_arith, le-false first z e, day_count-from_year y m d low p le)))
    (leb-true low y, le-leb low y) in
    let to : int_le z last ≡ nat_le y high = same_from_decides {P = y ≤ high} _ _
    (test_by (int_le z last) (y ≤ high)
    (λ e. elim (cases_lt high y) [
      | inl lt ↦ absurd (omega (arith, signed_arith, le-true z last e, day_count-from_year y m d (high + 1) p (omega arith)))
      | inr le ↦ le
    ])
    (λ e le. omega (arith, signed_arith, le-false z last e, day_number_before y m d (high + 1) (omega arith) p (omega arith))))
    (leb-true y high, le-leb y high) in
    rw (from, to) refl

pub is_day-day_number : (y m d : ℕ) → is_date y m d ≡ true → is_day (day_number y m d) ≡ is_between 1951 2249 y
is_day-day_number y m d h = between_years y m d 1951 2249 (negsuc 6939) (pos 102_267) (omega arith) (omega arith) (is_date-parts y m d h) (omega (arith, start_1951)) (omega (arith, start_2250))

pub is_business_day-day_number : (y m d : ℕ) → is_date y m d ≡ true → is_business_day (day_number y m d) ≡ is_between 2000 2199 y
is_business_day-day_number y m d h = between_years y m d 2000 2199 (pos 10_957) (pos 84_005) (omega arith) (omega arith) (is_date-parts y m d h) (omega (arith, start_2000)) (omega (arith, start_2200))

-- two dates of one year with one day count are one date
same_in_year : (y m d m₂ d₂ : ℕ) → y ≤ 9999 → IsDateParts y m d → IsDateParts y m₂ d₂ → day_count (pos y) m d ≡ day_count (pos y) m₂ d₂ → (m ≡ m₂) × (d ≡ d₂)
same_in_year y m d m₂ d₂ h p p₂ e =
    let month : m ≡ m₂ = elim (cases_order m m₂) [
      | inl same ↦ same
      | inr (inl lt) ↦ absurd (omega (arith, day_count-lt_month (pos y) m d m₂ d₂ (civil y m d h p) p₂.day_low lt))
      | inr (inr gt) ↦ absurd (omega (arith, day_count-lt_month (pos y) m₂ d₂ m d (civil y m₂ d₂ h p₂) p.day_low gt))
    ] in
    let moved : day_count (pos y) m d₂ ≡ day_count (pos y) m₂ d₂ = ap (λ k. day_count (pos y) k d₂) month in
    (month, omega (arith, day_count-day (pos y) m d d₂ p.day_low p₂.day_low))

-- two dates with one day number are one date
pub same_parts : (y m d y₂ m₂ d₂ : ℕ) → y ≤ 9999 → y₂ ≤ 9999 → IsDateParts y m d → IsDateParts y₂ m₂ d₂ → day_number y m d ≡ day_number y₂ m₂ d₂ → (y ≡ y₂) × (m ≡ m₂) × (d ≡ d₂)
same_parts y m d y₂ m₂ d₂ h h₂ p p₂ e =
    let count : day_count (pos y) m d ≡ day_count (pos y₂) m₂ d₂ = omega (arith, signed_arith, days_from_civil-day_count (pos y) m d, days_from_civil-day_count (pos y₂) m₂ d₂, ap up e, ap down e) in
    let year : y ≡ y₂ = elim (cases_order y y₂) [
      | inl same ↦ same
      | inr (inl lt) ↦ absurd (omega (arith, day_count-lt_year (pos y) m d (pos y₂) m₂ d₂ (civil y m d h p) p₂.day_low (omega (arith, signed_arith))))
      | inr (inr gt) ↦ absurd (omega (arith, day_count-lt_year (pos y₂) m₂ d₂ (pos y) m d (civil y₂ m₂ d₂ h₂ p₂) p.day_low (omega (arith, signed_arith))))
    ] in
    let moved : day_count (pos y) m₂ d₂ ≡ day_count (pos y₂) m₂ d₂ = ap (λ k. day_count (pos k) m₂ d₂) year in
    let rest = same_in_year y m d m₂ d₂ h p (subst (λ (k : ℕ). IsDateParts k m₂ d₂) (sym year) p₂) (count ∙ sym moved) in
    (year, rest.0, rest.1)

parts_of_date : (n : ℤ) (d : Date) → IsDateOf n d → IsDateParts d.year d.month d.day
parts_of_date n d i = record { month_low = i.month_low; month_high = i.month_high; day_low = i.day_low; day_high = i.day_high }

-- The two laws: a day number's date has this day number, and a date's day number has this date.
pub day_number-date_of : (n : ℤ) → IsTrue (is_day n) → day_number (date_of n).year (date_of n).month (date_of n).day ≡ n
day_number-date_of n h = (date_of_is n h).number

pub is_date-date_of : (n : ℤ) → IsTrue (is_day n) → is_date (date_of n).year (date_of n).month (date_of n).day ≡ true
is_date-date_of n h = is_date-true _ _ _ (parts_of_date n (date_of n) (date_of_is n h))

same_date : (a : Date) (y m d : ℕ) → a.year ≡ y → a.month ≡ m → a.day ≡ d → a ≡ record { year = y; month = m; day = d }
same_date a y m d ey em ed = rw (← ey, ← em, ← ed) refl

pub date_of-day_number : (y m d : ℕ) → is_date y m d ≡ true → 1951 ≤ y → y ≤ 2249 → date_of (day_number y m d) ≡ record { year = y; month = m; day = d }
date_of-day_number y m d h low high =
    let n = day_number y m d in
    let day : is_day n ≡ true = is_day-day_number y m d h ∙ and_from _ _ (le-leb _ _ low) (le-leb _ _ high) in
    let i = date_of_is n day in
    let same = same_parts (date_of n).year (date_of n).month (date_of n).day y m d (omega (arith, i.year_high)) (omega arith) (parts_of_date n (date_of n) i) (is_date-parts y m d h) i.number in
    same_date (date_of n) y m d same.0 same.1 same.2

-- no day has a date outside these bounds
pub dated_day-outside : (y m d : ℕ) → ¬ ((y ≤ 9999) × (m ≤ 12) × (d ≤ 31)) → dated_day y m d ≡ None
dated_day-outside y m d h =
    let none : Option ℤ = None in
    cond_both (is_date y m d) (checked is_day (day_number y m d)) none (λ o. o ≡ None)
    (λ e.
    let p = is_date-parts y m d e in
    elim (cases_lt 9999 y) [
      | inl over ↦ cond-false (is_day (day_number y m d)) _ _ (is_day-day_number y m d e ∙ and_right _ _ (lt-leb y 2249 (omega arith)))
      | inr within ↦ absurd (h (within, p.month_high, omega (arith, p.day_high, days_in_month_bounds (pos y) m)))
    ])
    (λ e. refl)

pub epoch_is_zero : (date : CivilDate) → IsYmd (pos 1970) (pos 1) (pos 1) date → epoch_day date ≡ pos 0
unfolding jiff_on_literals
epoch_is_zero date is =
    let month : date.month ≡ 1 = cc is.1 in
    let day : date.day ≡ 1 = cc is.2 in
    rw (is.0, month, day) refl

-- a date of jiff with the number of a day has the parts of its date
pub record HasParts (n : ℤ) (date : CivilDate) : Type 0 where
  pub year : date.year ≡ pos (date_of n).year
  pub month : date.month ≡ (date_of n).month
  pub day : date.day ≡ (date_of n).day
  pub within : (date_of n).year ≤ 2249

pub parts_of_civil : (n : ℤ) (date : CivilDate) → IsTrue (is_day n) → epoch_day date ≡ n → HasParts n date
parts_of_civil n date h e =
    let i = date_of_is n h in
    let d = date_of n in
    let other : CivilDate = record {
      year = pos d.year;
      month = d.month;
      day = d.day;
      year_in = (omega (arith, signed_arith, i.year_low), omega (arith, signed_arith, i.year_high));
      month_in = (i.month_low, i.month_high);
      day_in = (i.day_low, i.day_high);
    } in
    let same = epoch_day_injective date other (e ∙ sym i.number) in
    record { year = same.0; month = same.1; day = same.2; within = i.year_high }
