-- The texts of days: reading and writing are inverse to each other.
use Rattle.label.proofs.Words.{◌≡◌, ℕ, ◌+◌, ◌-◌, ◌*◌, ◌/◌, ◌%◌, ◌<◌, ◌≤◌, Bool, true, false, ◌&&◌, ◌==◌, cond, IsTrue, List, [], ◌∷◌, ◌++◌, length, slice_index_or as get_or, drop, map, refl, sym, ap, ◌∙◌, arith, ℤ, Option, Some, None, IfSome, pos, nat_le, range_with_len, all_ascii_digits, and_parts, and_from, cond-true, leb-true, eqb-true, nat_tests, days_in_month_bounds, checked, is_day, day_number, is_date, Date, date_of, dated_day, last_digits, day_text, two_digits, is_day_form, parsed_day}
use Rattle.std.specs.Char.{is_ascii_digit}
use Rattle.std.proofs.lemmas.List.FromFn.{fill_by_all}
use Rattle.label.proofs.DayNumbers.{date_of_is, is_day-day_number, day_number-date_of, is_date-date_of, date_of-day_number}

-- a text of n bytes, byte for byte
pub listed : (n : ℕ) (s : List ℕ) → length s ≡ n → s ≡ map (λ k. get_or s k 0) (range_with_len 0 n)
listed n s e = fill_by_all (λ k. get_or s k 0) s n 0 e (λ k h. refl)

first_part : (x y : Bool) → (x && y) ≡ true → x ≡ true
first_part x y h = (and_parts x y h).0

pub some_cond : (b : Bool) (o : Option ℤ) (n : ℤ) → cond b o None ≡ Some n → (b ≡ true) × (o ≡ Some n)
some_cond true o n h = (refl, h)
some_cond false o n h = cc

pub is_ascii_digit-range : (c : ℕ) → is_ascii_digit c ≡ true → (48 ≤ c) × (c ≤ 57)
is_ascii_digit-range c h = grind (arith, nat_tests)

pub is_ascii_digit-last : (x : ℕ) → is_ascii_digit (48 + x % 10) ≡ true
is_ascii_digit-last x = grind (arith, nat_tests)

pub last_digits-two_digits : (a b : ℕ) (rest : List ℕ) → is_ascii_digit a ≡ true → is_ascii_digit b ≡ true → last_digits 2 (two_digits (a ∷ b ∷ rest)) ≡ a ∷ b ∷ []
last_digits-two_digits a b rest p q =
    let da = is_ascii_digit-range a p in
    let db = is_ascii_digit-range b q in
    let first : 48 + (10 * (a - 48) + (b - 48)) / 10 % 10 ≡ a = omega arith in
    let second : 48 + (10 * (a - 48) + (b - 48)) % 10 ≡ b = omega arith in
    rw (first, second) refl

-- a number below 10000 has its hundreds and the rest written one after the other
pub last_digits-hundreds : (x y : ℕ) → x < 100 → y < 100 → last_digits 4 (100 * x + y) ≡ last_digits 2 x ++ last_digits 2 y
last_digits-hundreds x y h k =
    let a : (100 * x + y) / 10 / 10 / 10 % 10 ≡ x / 10 % 10 = omega arith in
    let b : (100 * x + y) / 10 / 10 % 10 ≡ x % 10 = omega arith in
    let c : (100 * x + y) / 10 % 10 ≡ y / 10 % 10 = omega arith in
    let d : (100 * x + y) % 10 ≡ y % 10 = omega arith in
    rw (a, b, c, d) refl

same_dated : (y m d y₂ m₂ d₂ : ℕ) → y ≡ y₂ → m ≡ m₂ → d ≡ d₂ → dated_day y m d ≡ dated_day y₂ m₂ d₂
same_dated y m d y₂ m₂ d₂ ey em ed = rw (ey, em, ed) refl

-- what a text of this form is read as
pub parsed_day-parts : (s : List ℕ) (y m d : ℕ) → is_day_form s ≡ true
    → y ≡ 100 * two_digits s + two_digits (drop 2 s) → m ≡ two_digits (drop 5 s) → d ≡ two_digits (drop 8 s) → dated_day y m d ≡ parsed_day s
parsed_day-parts s y m d form year month day = same_dated y m d _ _ _ year month day ∙ sym (cond-true (is_day_form s) _ _ form)

-- the day of a day's date is the day
pub dated_day-date_of : (n : ℤ) → IsTrue (is_day n) → dated_day (date_of n).year (date_of n).month (date_of n).day ≡ Some n
dated_day-date_of n h =
    let d = date_of n in
    let number = day_number-date_of n h in
    cond-true (is_date d.year d.month d.day) _ _ (is_date-date_of n h)
    ∙ ap (checked is_day) number ∙ cond-true (is_day n) _ _ h

text_form : (y m d : ℕ) → is_day_form (last_digits 4 y ++ 45 ∷ last_digits 2 m ++ 45 ∷ last_digits 2 d) ≡ true
text_form y m d =
    let four = and_from _ _ (is_ascii_digit-last (y / 10 / 10 / 10)) (and_from _ _ (is_ascii_digit-last (y / 10 / 10)) (and_from _ _ (is_ascii_digit-last (y / 10)) (and_from _ true (is_ascii_digit-last y) refl))) in
    let month = and_from _ _ (is_ascii_digit-last (m / 10)) (and_from _ true (is_ascii_digit-last m) refl) in
    let day = and_from _ _ (is_ascii_digit-last (d / 10)) (and_from _ true (is_ascii_digit-last d) refl) in
    and_from _ _ (and_from _ _ four month) day

-- what `Day::text` writes, `Day::parse` reads as the same day
pub parsed_day-day_text : (n : ℤ) → IsTrue (is_day n) → parsed_day (day_text n) ≡ Some n
parsed_day-day_text n h =
    let i = date_of_is n h in
    let y = (date_of n).year in
    let m = (date_of n).month in
    let d = (date_of n).day in
    let s = day_text n in
    let month_length = days_in_month_bounds (pos y) m in
    let year : y ≡ 100 * two_digits s + two_digits (drop 2 s) = omega (arith, i.year_high) in
    let month : m ≡ two_digits (drop 5 s) = omega (arith, i.month_high) in
    let day : d ≡ two_digits (drop 8 s) = omega (arith, i.day_high) in
    sym (parsed_day-parts s y m d (text_form y m d) year month day) ∙ dated_day-date_of n h

-- what a date tells that is a day's
pub record IsDated (y m d : ℕ) (n : ℤ) : Type 0 where
  pub year_high : y < 10000
  pub day : is_day n ≡ true
  pub date : date_of n ≡ record { year = y; month = m; day = d }

pub dated_day-some : (y m d : ℕ) (n : ℤ) → dated_day y m d ≡ Some n → IsDated y m d n
dated_day-some y m d n h =
    let date = some_cond (is_date y m d) (checked is_day (day_number y m d)) n h in
    let day = some_cond (is_day (day_number y m d)) (Some (day_number y m d)) n date.1 in
    let number : day_number y m d ≡ n = cc in
    let years = and_parts (nat_le 1951 y) (nat_le y 2249) (sym (is_day-day_number y m d date.0) ∙ day.0) in
    let high = leb-true y 2249 years.1 in
    record {
      year_high = omega arith;
      day = ap is_day (sym number) ∙ day.0;
      date = ap date_of (sym number) ∙ date_of-day_number y m d date.0 (leb-true 1951 y years.0) high;
    }

abbrev date_text : Date → List ℕ
date_text d = last_digits 4 d.year ++ 45 ∷ last_digits 2 d.month ++ 45 ∷ last_digits 2 d.day

pub two_are_digits : (a b : ℕ) (rest : List ℕ) → all_ascii_digits (a ∷ b ∷ rest) ≡ true → (is_ascii_digit a ≡ true) × (is_ascii_digit b ≡ true) × (all_ascii_digits rest ≡ true)
two_are_digits a b rest h =
    let first = and_parts (is_ascii_digit a) (is_ascii_digit b && all_ascii_digits rest) h in
    let second = and_parts (is_ascii_digit b) (all_ascii_digits rest) first.1 in
    (first.0, second.0, second.1)

pub two_digits-bound : (a b : ℕ) (rest : List ℕ) → is_ascii_digit a ≡ true → is_ascii_digit b ≡ true → two_digits (a ∷ b ∷ rest) < 100
two_digits-bound a b rest p q = omega (arith, is_ascii_digit-range a p, is_ascii_digit-range b q)

written_bytes : (a b c d e f g h i j : ℕ) (n : ℤ) → let s = a ∷ b ∷ c ∷ d ∷ e ∷ f ∷ g ∷ h ∷ i ∷ j ∷ [] in parsed_day s ≡ Some n → day_text n ≡ s
written_bytes a b c d e f g h i j n is =
    let s = a ∷ b ∷ c ∷ d ∷ e ∷ f ∷ g ∷ h ∷ i ∷ j ∷ [] in
    let both = some_cond (is_day_form s) _ n is in
    let year_digits = all_ascii_digits (a ∷ b ∷ c ∷ d ∷ []) in
    let month_digits = all_ascii_digits (f ∷ g ∷ []) in
    let day_digits = all_ascii_digits (i ∷ j ∷ []) in
    let of_day = and_parts ((e == 45) && (h == 45) && year_digits && month_digits) day_digits both.0 in
    let of_month = and_parts ((e == 45) && (h == 45) && year_digits) month_digits of_day.0 in
    let of_year = and_parts ((e == 45) && (h == 45)) year_digits of_month.0 in
    let dashes = and_parts (e == 45) (h == 45) of_year.0 in
    let ab = two_are_digits a b (c ∷ d ∷ []) of_year.1 in
    let cd = two_are_digits c d [] ab.2 in
    let fg = two_are_digits f g [] of_month.1 in
    let ij = two_are_digits i j [] of_day.1 in
    let high = two_digits (a ∷ b ∷ []) in
    let low = two_digits (c ∷ d ∷ []) in
    let month = two_digits (f ∷ g ∷ []) in
    let day = two_digits (i ∷ j ∷ []) in
    let date = dated_day-some (100 * high + low) month day n both.1 in
    let year_text : last_digits 4 (100 * high + low) ≡ a ∷ b ∷ c ∷ d ∷ [] =
    last_digits-hundreds high low (two_digits-bound a b [] ab.0 ab.1) (two_digits-bound c d [] cd.0 cd.1)
    ∙ ap (λ q. q ++ last_digits 2 low) (last_digits-two_digits a b [] ab.0 ab.1)
    ∙ ap (λ q. a ∷ b ∷ q) (last_digits-two_digits c d [] cd.0 cd.1) in
    ap date_text date.date
    ∙ ap (λ q. q ++ 45 ∷ last_digits 2 month ++ 45 ∷ last_digits 2 day) year_text
    ∙ ap (λ q. a ∷ b ∷ c ∷ d ∷ 45 ∷ q ++ 45 ∷ last_digits 2 day) (last_digits-two_digits f g [] fg.0 fg.1)
    ∙ ap (λ q. a ∷ b ∷ c ∷ d ∷ 45 ∷ f ∷ g ∷ 45 ∷ q) (last_digits-two_digits i j [] ij.0 ij.1)
    ∙ ap (λ q. a ∷ b ∷ c ∷ d ∷ q ∷ f ∷ g ∷ 45 ∷ i ∷ j ∷ []) (sym (eqb-true e 45 dashes.0))
    ∙ ap (λ q. a ∷ b ∷ c ∷ d ∷ e ∷ f ∷ g ∷ q ∷ i ∷ j ∷ []) (sym (eqb-true h 45 dashes.1))

-- a text that is read as a day is the text of that day
pub day_text-parsed_day : (s : List ℕ) (n : ℤ) → parsed_day s ≡ Some n → day_text n ≡ s
day_text-parsed_day s n h =
    let form = some_cond (is_day_form s) _ n h in
    let length_is = eqb-true (length s) 10 (first_part _ _ (first_part _ _ (first_part _ _ (first_part _ _ (first_part _ _ form.0))))) in
    let e = listed 10 s length_is in
    let at : ℕ → ℕ = λ k. get_or s k 0 in
    written_bytes (at 0) (at 1) (at 2) (at 3) (at 4) (at 5) (at 6) (at 7) (at 8) (at 9) n (ap parsed_day (sym e) ∙ h) ∙ sym e

-- two days with one text are one day
pub day_text_injective : (a b : ℤ) → IsTrue (is_day a) → IsTrue (is_day b) → day_text a ≡ day_text b → a ≡ b
day_text_injective a b p q e =
    let same : Some a ≡ Some b = sym (parsed_day-day_text a p) ∙ ap parsed_day e ∙ parsed_day-day_text b q in
    cc

pub parsed_day-written : (s : List ℕ) (o : Option ℤ) → o ≡ parsed_day s → IfSome o (λ day. day_text day ≡ s)
parsed_day-written s None e = tt
parsed_day-written s (Some n) e = day_text-parsed_day s n (sym e)
