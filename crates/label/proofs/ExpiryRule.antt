-- The date rule of labels: the formula and the relation agree, and what is written is read again.
use Rattle.label.proofs.Words.{◌≡◌, ℕ, ◌+◌, ◌/◌, ◌%◌, ◌<◌, ◌≤◌, inl, inr, Bool, true, false, not, ◌&&◌, ◌==◌, ◌↔◌, cond, IsTrue, List, [], ◌∷◌, ◌++◌, length, slice_index_or as get_or, drop, refl, sym, ap, ◌∙◌, arith, ℤ, pos, negsuc, nat_le, Option, Some, None, Result, Ok, Err, all_ascii_digits, cases_eq, and_parts, and_from, cond-true, cond-false, cond_both, leb-true, le-leb, eqb-true, eq-eqb, ne_eqb, nat_tests, days_in_month, days_in_month_bounds, is_day, is_business_day, day_number, is_date, date_of, year_of_day, dated_day, last_digits, two_digits, ok_or, LabelFault, CutShort, NotADigit, NoSuchDate}
use Rattle.label.specs.Expiry.{full_year, day_in_month, expiry_day, IsExpiry, expiry_read, expiry_text}
use Rattle.label.proofs.DayNumbers.{date_of_is, is_date-parts, is_date-true, is_day-day_number, is_business_day-day_number, day_number-date_of, is_date-date_of}
use Rattle.label.proofs.DayTexts.{listed, some_cond, two_are_digits, two_digits-bound, is_ascii_digit-last}

-- a business day is a day of the years 2000 to 2199
pub record IsBusiness (today : ℤ) : Type 0 where
  pub day : IsTrue (is_day today)
  pub year_low : 2000 ≤ year_of_day today
  pub year_high : year_of_day today ≤ 2199

business_is_day : (n : ℤ) → IsTrue (is_business_day n) → IsTrue (is_day n)
business_is_day (pos k) h = grind (arith, nat_tests)
business_is_day (negsuc k) h = grind (arith, nat_tests)

pub business_is : (today : ℤ) → IsTrue (is_business_day today) → IsBusiness today
business_is today h =
    let day = business_is_day today h in
    let d = date_of today in
    let same = is_business_day-day_number d.year d.month d.day (is_date-date_of today day) in
    let number : is_business_day (day_number d.year d.month d.day) ≡ is_business_day today = ap is_business_day (day_number-date_of today day) in
    let years = and_parts (nat_le 2000 d.year) (nat_le d.year 2199) (sym same ∙ number ∙ h) in
    record { day = day; year_low = leb-true _ _ years.0; year_high = leb-true _ _ years.1 }

-- the year of the formula lies from 49 years before to 50 years after the present one, and no other year there has its last digits
pub full_year_from : (now yy : ℕ) → 49 ≤ now → now ≤ full_year now yy + 49
full_year_from now yy h = omega arith

pub full_year_to : (now yy : ℕ) → 49 ≤ now → full_year now yy ≤ now + 50
full_year_to now yy h = omega arith

pub full_year_ends : (now yy : ℕ) → yy < 100 → full_year now yy % 100 ≡ yy
full_year_ends now yy h = omega arith

pub full_year_only : (now yy y : ℕ) → 49 ≤ now → now ≤ y + 49 → y ≤ now + 50 → y % 100 ≡ yy → full_year now yy ≡ y
full_year_only now yy y h low high e = omega arith

six_bytes : (a b c d e f : ℕ) → all_ascii_digits (a ∷ b ∷ c ∷ d ∷ e ∷ f ∷ []) ≡ true → two_digits (a ∷ b ∷ c ∷ d ∷ e ∷ f ∷ []) < 100
six_bytes a b c d e f h =
    let ab = two_are_digits a b (c ∷ d ∷ e ∷ f ∷ []) h in
    two_digits-bound a b (c ∷ d ∷ e ∷ f ∷ []) ab.0 ab.1

pub first_two-bound : (s : List ℕ) → length s ≡ 6 → all_ascii_digits s ≡ true → two_digits s < 100
first_two-bound s n h =
    let e = listed 6 s n in
    let at : ℕ → ℕ = λ k. get_or s k 0 in
    let bound = six_bytes (at 0) (at 1) (at 2) (at 3) (at 4) (at 5) (ap all_ascii_digits (sym e) ∙ h) in
    omega (arith, ap two_digits e)

day_named : (y m dd : ℕ) → 0 < dd → day_in_month y m dd ≡ dd
day_named y m dd h = cond-false (dd == 0) _ _ (ne_eqb dd 0 (λ e. omega arith))

day_last : (y m dd : ℕ) → dd ≡ 0 → day_in_month y m dd ≡ days_in_month (pos y) m
day_last y m dd e = cond-true (dd == 0) _ _ (eq-eqb dd 0 e)

-- what the formula gives stands in the relation
pub IsExpiry-from_expiry_day : (today : ℤ) (s : List ℕ) (n : ℤ) → IsTrue (is_business_day today) → expiry_day today s ≡ Some n → IsExpiry today s n
IsExpiry-from_expiry_day today s n h e =
    let now = year_of_day today in
    let y = full_year now (two_digits s) in
    let m = two_digits (drop 2 s) in
    let d = day_in_month y m (two_digits (drop 4 s)) in
    let test = some_cond ((length s == 6) && all_ascii_digits s && is_date y m d) (Some (day_number y m d)) n e in
    let form = and_parts ((length s == 6) && all_ascii_digits s) (is_date y m d) test.0 in
    let bytes = and_parts (length s == 6) (all_ascii_digits s) form.0 in
    let six = eqb-true (length s) 6 bytes.0 in
    let date = is_date-parts y m d form.1 in
    let business = business_is today h in
    let low : 49 ≤ now = omega (arith, business.year_low) in
    record {
      year = y;
      month = m;
      day = d;
      six = six;
      digits = bytes.1;
      year_ends = full_year_ends now (two_digits s) (first_two-bound s six bytes.1);
      year_from = full_year_from now (two_digits s) low;
      year_to = full_year_to now (two_digits s) low;
      month_is = refl;
      month_from = date.month_low;
      month_to = date.month_high;
      day_is = day_named y m (two_digits (drop 4 s));
      day_last = day_last y m (two_digits (drop 4 s));
      day_from = date.day_low;
      day_to = date.day_high;
      is = cc test.1;
    }

day_by_cases : (y m dd d : ℕ) → (0 < dd → d ≡ dd) → (dd ≡ 0 → d ≡ days_in_month (pos y) m) → day_in_month y m dd ≡ d
day_by_cases y m dd d named last =
    elim (cases_eq dd 0) [
      | inl none ↦ day_last y m dd none ∙ sym (last none)
      | inr some ↦ let there : 0 < dd = omega arith in day_named y m dd there ∙ sym (named there)
    ]

expiry_at : (today : ℤ) (s : List ℕ) (y m d : ℕ) → length s ≡ 6 → all_ascii_digits s ≡ true → full_year (year_of_day today) (two_digits s) ≡ y → two_digits (drop 2 s) ≡ m → day_in_month y m (two_digits (drop 4 s)) ≡ d → is_date y m d ≡ true → expiry_day today s ≡ Some (day_number y m d)
expiry_at today s y m d six digits ey em ed date =
    let test : ((length s == 6) && all_ascii_digits s && is_date y m d) ≡ true = and_from _ _ (and_from _ _ (eq-eqb _ _ six) digits) date in
    let value = λ (q r t : ℕ). cond ((length s == 6) && all_ascii_digits s && is_date q r (day_in_month q r t)) (Some (day_number q r (day_in_month q r t))) None in
    let whole = λ (q r t : ℕ). cond ((length s == 6) && all_ascii_digits s && is_date q r t) (Some (day_number q r t)) None in
    ap (λ q. value q (two_digits (drop 2 s)) (two_digits (drop 4 s))) ey
    ∙ ap (λ r. value y r (two_digits (drop 4 s))) em
    ∙ ap (λ t. whole y m t) ed
    ∙ cond-true _ _ _ test

-- and what stands in the relation the formula gives
pub expiry_day-from_IsExpiry : (today : ℤ) (s : List ℕ) (n : ℤ) → IsTrue (is_business_day today) → IsExpiry today s n → expiry_day today s ≡ Some n
expiry_day-from_IsExpiry today s n h i =
    let now = year_of_day today in
    let business = business_is today h in
    let low : 49 ≤ now = omega (arith, business.year_low) in
    let date = is_date-true i.year i.month i.day (record { month_low = i.month_from; month_high = i.month_to; day_low = i.day_from; day_high = i.day_to }) in
    expiry_at today s i.year i.month i.day i.six i.digits (full_year_only now (two_digits s) i.year low i.year_from i.year_to i.year_ends) (sym i.month_is)
    (day_by_cases i.year i.month (two_digits (drop 4 s)) i.day i.day_is i.day_last) date
    ∙ ap Some (sym i.is)

in_years : (y m d : ℕ) → 1951 ≤ y → y ≤ 2249 → dated_day y m d ≡ cond (is_date y m d) (Some (day_number y m d)) None
in_years y m d low high =
    let none : Option ℤ = None in
    let all = λ (o : Option ℤ). cond (is_date y m d) o none in
    cond_both (is_date y m d) (Some (day_number y m d)) none (λ o. dated_day y m d ≡ o)
    (λ e. cond-true (is_date y m d) _ _ e ∙ cond-true (is_day (day_number y m d)) _ _ (is_day-day_number y m d e ∙ and_from _ _ (le-leb _ _ low) (le-leb _ _ high)))
    (λ e. cond-false (is_date y m d) _ _ e)

-- the expiry day of six digits is the day of the date that they name
pub expiry_day-dated : (today : ℤ) (s : List ℕ) → IsTrue (is_business_day today) → length s ≡ 6 → all_ascii_digits s ≡ true → expiry_day today s ≡ dated_day (full_year (year_of_day today) (two_digits s)) (two_digits (drop 2 s)) (day_in_month (full_year (year_of_day today) (two_digits s)) (two_digits (drop 2 s)) (two_digits (drop 4 s)))
expiry_day-dated today s h six digits =
    let now = year_of_day today in
    let business = business_is today h in
    let low : 49 ≤ now = omega (arith, business.year_low) in
    let y = full_year now (two_digits s) in
    let m = two_digits (drop 2 s) in
    let d = day_in_month y m (two_digits (drop 4 s)) in
    let from = full_year_from now (two_digits s) low in
    let to = full_year_to now (two_digits s) low in
    let form : ((length s == 6) && all_ascii_digits s) ≡ true = and_from _ _ (eq-eqb _ _ six) digits in
    ap (λ b. cond (b && is_date y m d) (Some (day_number y m d)) None) form
    ∙ sym (in_years y m d (omega (arith, from, business.year_low)) (omega (arith, to, business.year_high)))

-- the last two digits of a number, and the digits of one below 100
last_two : (x : ℕ) (rest : List ℕ) → two_digits (last_digits 2 x ++ rest) ≡ x % 100
last_two x rest = omega arith

text_digits : (y m d : ℕ) → all_ascii_digits (last_digits 2 y ++ last_digits 2 m ++ last_digits 2 d) ≡ true
text_digits y m d =
    and_from _ _ (is_ascii_digit-last (y / 10)) (and_from _ _ (is_ascii_digit-last y)
    (and_from _ _ (is_ascii_digit-last (m / 10)) (and_from _ _ (is_ascii_digit-last m)
    (and_from _ _ (is_ascii_digit-last (d / 10)) (and_from _ true (is_ascii_digit-last d) refl)))))

-- what is written of a day whose year lies from 49 years before to 50 years after that of the business day is read as that day
pub expiry_day-expiry_text : (today day : ℤ) → IsTrue (is_business_day today) → IsTrue (is_day day) → year_of_day today ≤ year_of_day day + 49 → year_of_day day ≤ year_of_day today + 50 → expiry_day today (expiry_text day) ≡ Some day
expiry_day-expiry_text today day h k from to =
    let i = date_of_is day k in
    let date = date_of day in
    let s = expiry_text day in
    let business = business_is today h in
    let low : 49 ≤ year_of_day today = omega (arith, business.year_low) in
    let month_length = days_in_month_bounds (pos date.year) date.month in
    let month : two_digits (drop 2 s) ≡ date.month = omega (arith, i.month_high) in
    let dd : two_digits (drop 4 s) ≡ date.day = omega (arith, i.day_high) in
    let some : 0 < two_digits (drop 4 s) = omega (arith, i.day_low) in
    expiry_at today s date.year date.month date.day refl (text_digits date.year date.month date.day)
    (full_year_only (year_of_day today) (two_digits s) date.year low from to (sym (last_two date.year (last_digits 2 date.month ++ last_digits 2 date.day)))) month
    (day_named date.year date.month (two_digits (drop 4 s)) some ∙ dd) (is_date-date_of day k)
    ∙ ap Some (day_number-date_of day k)

ok_by_faults : (b c : Bool) (o : Option ℤ) (n : ℤ) → cond (not b) (Err CutShort) (cond (not c) (Err NotADigit) (ok_or o NoSuchDate)) ≡ Ok n → o ≡ Some n
ok_by_faults true true (Some k) n e = cc
ok_by_faults true true None n e = cc
ok_by_faults true false o n e = cc
ok_by_faults false c o n e = cc

-- reading six digits gives the day of the date that they name
pub expiry_read-six : (today : ℤ) (s : List ℕ) → length s ≡ 6 → all_ascii_digits s ≡ true → expiry_read today s ≡ ok_or (expiry_day today s) NoSuchDate
unfolding expiry_read
expiry_read-six today s six digits =
    let inner = cond (not (all_ascii_digits s)) (Err NotADigit) (ok_or (expiry_day today s) NoSuchDate) in
    ap (λ b. cond (not b) (Err CutShort) inner) (eq-eqb (length s) 6 six)
    ∙ ap (λ b. cond (not b) (Err NotADigit) (ok_or (expiry_day today s) NoSuchDate)) digits

pub expiry_read-dated : (today : ℤ) (s : List ℕ) (y m dd : ℕ) (o : Option ℤ) (r : Result ℤ LabelFault) → IsTrue (is_business_day today) → length s ≡ 6 → all_ascii_digits s ≡ true → y ≡ full_year (year_of_day today) (two_digits s) → m ≡ two_digits (drop 2 s) → dd ≡ two_digits (drop 4 s) → o ≡ dated_day y m (day_in_month y m dd) → r ≡ ok_or o NoSuchDate → r ≡ expiry_read today s
expiry_read-dated today s y m dd o r h six digits ey em ed eo er =
    let value = λ (q r t : ℕ). dated_day q r (day_in_month q r t) in
    er ∙ ap (λ q. ok_or q NoSuchDate)
    (eo ∙ ap (λ q. value q m dd) ey ∙ ap (λ q. value (full_year (year_of_day today) (two_digits s)) q dd) em
    ∙ ap (λ q. value (full_year (year_of_day today) (two_digits s)) (two_digits (drop 2 s)) q) ed
    ∙ sym (expiry_day-dated today s h six digits))
    ∙ sym (expiry_read-six today s six digits)

-- a day is read exactly where the relation has it
pub expiry_read-rule : (today : ℤ) (s : List ℕ) (r : Result ℤ LabelFault) → IsTrue (is_business_day today) → r ≡ expiry_read today s → (n : ℤ) → (r ≡ Ok n) ↔ IsExpiry today s n
unfolding expiry_read
expiry_read-rule today s r h e n = (
  λ ok. IsExpiry-from_expiry_day today s n h (ok_by_faults (length s == 6) (all_ascii_digits s) (expiry_day today s) n (sym e ∙ ok)),
  λ i. e ∙ expiry_read-six today s i.six i.digits ∙ ap (λ o. ok_or o NoSuchDate) (expiry_day-from_IsExpiry today s n h i),
)
