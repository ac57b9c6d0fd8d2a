-- Worked examples of days and expiration dates.
use Rattle.label.proofs.Words.{◌≡◌, codes, refl, pos, negsuc, Some, None, Ok, Err, false, day_number, is_date, date_of, day_text, parsed_day, CutShort, NotADigit, NoSuchDate}
use Rattle.label.specs.Expiry.{full_year, expiry_day, expiry_read, expiry_text}
use Rattle.label.proofs.OnLiterals.{dates_on_literals}

-- the day numbers of the ends of the ranges, of the epoch and of a day between
number_of_first_day : day_number 1951 1 1 ≡ negsuc 6939
unfolding dates_on_literals
number_of_first_day = refl

number_of_epoch : day_number 1970 1 1 ≡ pos 0
unfolding dates_on_literals
number_of_epoch = refl

number_of_first_business_day : day_number 2000 1 1 ≡ pos 10_957
unfolding dates_on_literals
number_of_first_business_day = refl

number_of_4_may_2026 : day_number 2026 5 4 ≡ pos 20_577
unfolding dates_on_literals
number_of_4_may_2026 = refl

number_of_last_business_day : day_number 2199 12 31 ≡ pos 84_005
unfolding dates_on_literals
number_of_last_business_day = refl

number_of_last_day : day_number 2249 12 31 ≡ pos 102_267
unfolding dates_on_literals
number_of_last_day = refl

date_of_first_day : date_of (negsuc 6939) ≡ record { year = 1951; month = 1; day = 1 }
unfolding dates_on_literals
date_of_first_day = refl

date_of_leap_day : date_of (pos 11_016) ≡ record { year = 2000; month = 2; day = 29 }
unfolding dates_on_literals
date_of_leap_day = refl

date_of_last_day : date_of (pos 102_267) ≡ record { year = 2249; month = 12; day = 31 }
unfolding dates_on_literals
date_of_last_day = refl

-- the year 2100 is no leap year
no_leap_day_in_2100 : is_date 2100 2 29 ≡ false
no_leap_day_in_2100 = refl

-- texts of days
text_of_first_day : day_text (negsuc 6939) ≡ codes "1951-01-01"
unfolding dates_on_literals
text_of_first_day = refl

text_of_4_may_2026 : day_text (pos 20_577) ≡ codes "2026-05-04"
unfolding dates_on_literals
text_of_4_may_2026 = refl

day_read : parsed_day (codes "2026-05-04") ≡ Some (pos 20_577)
unfolding dates_on_literals
day_read = refl

day_before_range_refused : parsed_day (codes "1950-12-31") ≡ None
unfolding dates_on_literals
day_before_range_refused = refl

day_after_range_refused : parsed_day (codes "2250-01-01") ≡ None
unfolding dates_on_literals
day_after_range_refused = refl

month_13_refused : parsed_day (codes "2026-13-01") ≡ None
month_13_refused = refl

slashes_refused : parsed_day (codes "2026/05/04") ≡ None
slashes_refused = refl

short_day_refused : parsed_day (codes "2026-5-4") ≡ None
short_day_refused = refl

-- the century: 49 years before to 50 years after the present year
fifty_years_after : full_year 2026 76 ≡ 2076
fifty_years_after = refl

forty_nine_years_before : full_year 2026 77 ≡ 1977
forty_nine_years_before = refl

-- on 2026-05-04
expiry_in_50_years : expiry_day (pos 20_577) (codes "760101") ≡ Some (day_number 2076 1 1)
unfolding dates_on_literals
expiry_in_50_years = refl

expiry_49_years_ago : expiry_day (pos 20_577) (codes "770101") ≡ Some (day_number 1977 1 1)
unfolding dates_on_literals
expiry_49_years_ago = refl

-- on 2080-01-01
expiry_in_next_century : expiry_day (pos 40_177) (codes "300101") ≡ Some (day_number 2130 1 1)
unfolding dates_on_literals
expiry_in_next_century = refl

expiry_in_this_century : expiry_day (pos 40_177) (codes "310101") ≡ Some (day_number 2031 1 1)
unfolding dates_on_literals
expiry_in_this_century = refl

-- day 00 is the last of the month, leap years counted
last_of_february : expiry_day (pos 20_577) (codes "270200") ≡ Some (day_number 2027 2 28)
unfolding dates_on_literals
last_of_february = refl

last_of_february_in_leap_year : expiry_day (pos 20_577) (codes "280200") ≡ Some (day_number 2028 2 29)
unfolding dates_on_literals
last_of_february_in_leap_year = refl

-- reading, with each fault in its order
expiry_is_read : expiry_read (pos 20_577) (codes "260930") ≡ Ok (day_number 2026 9 30)
unfolding dates_on_literals expiry_read
expiry_is_read = refl

no_31_september : expiry_read (pos 20_577) (codes "260931") ≡ Err NoSuchDate
unfolding dates_on_literals expiry_read
no_31_september = refl

no_month_13 : expiry_read (pos 20_577) (codes "261300") ≡ Err NoSuchDate
unfolding dates_on_literals expiry_read
no_month_13 = refl

letter_is_no_digit : expiry_read (pos 20_577) (codes "26o930") ≡ Err NotADigit
unfolding expiry_read
letter_is_no_digit = refl

five_digits_are_cut_short : expiry_read (pos 20_577) (codes "2609x") ≡ Err CutShort
unfolding expiry_read
five_digits_are_cut_short = refl

seven_digits_are_no_date : expiry_read (pos 20_577) (codes "2609301") ≡ Err CutShort
unfolding expiry_read
seven_digits_are_no_date = refl

expiry_is_written : expiry_text (pos 21_243) ≡ codes "280229"
unfolding dates_on_literals
expiry_is_written = refl
