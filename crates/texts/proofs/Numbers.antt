-- Numbers that are written are read again.
use Rattle.texts.proofs.Words.{◌≡◌, ℕ, suc, ◌+◌, ◌-◌, ◌*◌, ◌/◌, ◌%◌, ◌^◌, ◌<◌, ◌≤◌, Bool, true, false, List, [], ◌∷◌, ◌++◌, length, refl, ap, ◌∙◌, arith, lit<, Some, None, ℤ, pos, negsuc, neg_ℤ, nat_le, decimal, option_and_then, signed_decimal, list_all, decimal_by_steps, length-decimal-le, cond-true, cond-false, le-leb, nat_tests, checked, first_is, is_between, is_counted, is_delta, is_digit, is_line_no, is_qty, QTY_MAX, LINE_MAX, LEAST_DAYS_MAX, is_least_days, all-append, and_true, number_from, number_read, qty_read, counted_read, least_days_read, line_no_read, delta_read}

-- what keeps its rule passes the test of it
pub checked_again : {X : Type 0} (rule : X → Bool) (x : X) → rule x ≡ true → checked rule x ≡ Some x
checked_again rule x h = cond-true (rule x) (Some x) None h

number_more : (k : ℕ) (ds : List ℕ) (c : ℕ) → number_from k (ds ++ c ∷ []) ≡ number_from k ds * 10 + (c - 48)
number_more k [] c = refl
number_more k (d ∷ ds) c = number_more (k * 10 + (d - 48)) ds c

figure : (n : ℕ) → n < 10 → number_from 0 ((48 + n) ∷ []) ≡ n
figure n h = omega arith

tenth : (n : ℕ) (ds : List ℕ) → 10 ≤ n → number_from 0 ds ≡ n / 10 → number_from 0 (ds ++ ((48 + n % 10) ∷ [])) ≡ n
tenth n ds h e = number_more 0 ds (48 + n % 10) ∙ omega (arith, e)

digits_again : (n : ℕ) → n < 2 ^ 64 → number_from 0 (decimal n) ≡ n
digits_again n small = decimal_by_steps (λ n ds. number_from 0 ds ≡ n) figure tenth n small

number_again : (n : ℕ) → n ≤ 1_000_000 → number_read (decimal n) ≡ Some n
number_again n low =
    let short : length (decimal n) ≤ 7 = length-decimal-le 7 n (lit< tt) (omega (arith, low)) (omega (arith, low)) in
    cond-true (nat_le (length (decimal n)) 7) _ _ (le-leb (length (decimal n)) 7 short) ∙ ap Some (digits_again n (omega (arith, low)))

low_qty : (n : ℕ) → is_between 1 QTY_MAX n ≡ true → n ≤ 1_000_000
low_qty n e = grind (arith, nat_tests)

low_count : (n : ℕ) → is_between 0 QTY_MAX n ≡ true → n ≤ 1_000_000
low_count n e = grind (arith, nat_tests)

low_line : (n : ℕ) → is_between 1 LINE_MAX n ≡ true → n ≤ 1_000_000
low_line n e = grind (arith, nat_tests)

low_days : (n : ℕ) → is_between 0 LEAST_DAYS_MAX n ≡ true → n ≤ 1_000_000
low_days n e = grind (arith, nat_tests)

pub qty_again : (n : ℕ) → is_qty n ≡ true → qty_read (decimal n) ≡ Some n
qty_again n sound = ap (option_and_then (checked is_qty)) (number_again n (low_qty n sound)) ∙ checked_again is_qty n sound

pub counted_again : (n : ℕ) → is_counted n ≡ true → counted_read (decimal n) ≡ Some n
counted_again n sound = ap (option_and_then (checked is_counted)) (number_again n (low_count n sound)) ∙ checked_again is_counted n sound

pub least_days_again : (n : ℕ) → is_least_days n ≡ true → least_days_read (decimal n) ≡ Some n
least_days_again n sound = ap (option_and_then (checked is_least_days)) (number_again n (low_days n sound)) ∙ checked_again is_least_days n sound

pub line_no_again : (n : ℕ) → is_line_no n ≡ true → line_no_read (decimal n) ≡ Some n
line_no_again n sound = ap (option_and_then (checked is_line_no)) (number_again n (low_line n sound)) ∙ checked_again is_line_no n sound

-- a number is written in digits, and so without a dash
unsigned_figure : (n : ℕ) → n < 10 → first_is 45 ((48 + n) ∷ []) ≡ false
unsigned_figure n h = grind (arith, nat_tests)

unsigned_more : (n : ℕ) (ds : List ℕ) → 10 ≤ n → first_is 45 ds ≡ false → first_is 45 (ds ++ ((48 + n % 10) ∷ [])) ≡ false
unsigned_more n [] h e = grind (arith, nat_tests)
unsigned_more n (d ∷ ds) h e = e

unsigned : (n : ℕ) → n < 2 ^ 64 → first_is 45 (decimal n) ≡ false
unsigned n small = decimal_by_steps (λ n ds. first_is 45 ds ≡ false) unsigned_figure unsigned_more n small

pub delta_again : (z : ℤ) → is_delta z ≡ true → delta_read (signed_decimal z) ≡ Some z
delta_again (pos n) sound =
    let low = low_qty n sound in
    cond-false (first_is 45 (decimal n)) _ _ (unsigned n (omega (arith, low)))
    ∙ ap (option_and_then (λ n. checked is_delta (pos n))) (number_again n low) ∙ checked_again is_delta (pos n) sound
delta_again (negsuc n) sound =
    let low = low_qty (suc n) sound in
    ap (option_and_then (λ n. checked is_delta (neg_ℤ (pos n)))) (number_again (suc n) low) ∙ checked_again is_delta (negsuc n) sound

digit_figure : (n : ℕ) → n < 10 → is_digit (48 + n) ≡ true
digit_figure n h = grind (arith, nat_tests)

pub decimal_digits : (n : ℕ) → n < 2 ^ 64 → list_all is_digit (decimal n) ≡ true
decimal_digits n small =
    decimal_by_steps (λ n ds. list_all is_digit ds ≡ true) (λ n h. and_true (is_digit (48 + n)) true (digit_figure n h) refl)
    (λ n ds h l. all-append is_digit ds _ l (and_true (is_digit (48 + n % 10)) true (digit_figure (n % 10) (omega arith)) refl)) n small
