-- Every field of a command is printable ASCII: it holds no line feed.
use Rattle.commands.proofs.Below.{◌≡◌, ℕ, ◌+◌, ◌<◌, ◌^◌, ◌/◌, ◌%◌, zero, suc, Bool, true, false, List, [], ◌∷◌, ◌++◌, length, refl, arith, ℤ, pos, negsuc, ◌&&◌, ◌||◌, ◌==◌, codes, decimal, signed_decimal, list_all, list_any, decimal_by_steps, eqb-true, nat_tests, is_name, is_title, is_gtin, is_lot_text, is_delta, is_between, is_one_of, is_upper, is_lower, is_digit, is_name_char, is_set_82, has_no_edge_space, QTY_MAX, LOT_MAX, TITLE_MAX, last_digits, day_text, date_of}
use Rattle.commands.proofs.Joining.{Lacks, lacks_failing, and_both, and_true, all_wider, all-append}

abbrev pub is_printable : ℕ → Bool
is_printable = is_between 32 126

abbrev pub Printable : List ℕ → Type 0
Printable s = list_all is_printable s ≡ true

or_cases : {A : Type 0} (a b : Bool) → a || b ≡ true → (a ≡ true → A) → (b ≡ true → A) → A
or_cases true b e f g = f refl
or_cases false b e f g = g e

upper_printable : (c : ℕ) → is_upper c ≡ true → is_printable c ≡ true
upper_printable c e = grind (arith, nat_tests)

lower_printable : (c : ℕ) → is_lower c ≡ true → is_printable c ≡ true
lower_printable c e = grind (arith, nat_tests)

digit_printable : (c : ℕ) → is_digit c ≡ true → is_printable c ≡ true
digit_printable c e = grind (arith, nat_tests)

listed_printable : (set : List ℕ) → Printable set → (c : ℕ) → list_any (λ d. c == d) set ≡ true → is_printable c ≡ true
listed_printable [] p c e = cc
listed_printable (d ∷ set) p c e =
    let q = and_both (is_printable d) (list_all is_printable set) p in
    or_cases (c == d) (list_any (λ d. c == d) set) e
    (λ t. let same : c ≡ d = eqb-true c d t in rw same q.0)
    (λ t. listed_printable set q.1 c t)

name_char_printable : (c : ℕ) → is_name_char c ≡ true → is_printable c ≡ true
name_char_printable c e =
    or_cases (is_upper c || is_digit c) (c == 45) e
    (λ t. or_cases (is_upper c) (is_digit c) t (upper_printable c) (digit_printable c))
    (λ t. let same : c ≡ 45 = eqb-true c 45 t in rw same refl)

set_82_printable : (c : ℕ) → is_set_82 c ≡ true → is_printable c ≡ true
set_82_printable c e =
    let signs = codes "!\"%&'()*+,-./:;<=>?_" in
    or_cases (is_upper c || is_lower c || is_digit c) (is_one_of signs c) e
    (λ t. or_cases (is_upper c || is_lower c) (is_digit c) t
    (λ u. or_cases (is_upper c) (is_lower c) u (upper_printable c) (lower_printable c))
    (digit_printable c))
    (listed_printable signs refl c)

-- a byte that no name holds
pub name_lacks : (c : ℕ) (s : List ℕ) → is_name_char c ≡ false → is_name s ≡ true → Lacks c s
name_lacks c s fails sound = lacks_failing c is_name_char fails s (and_both _ (list_all is_name_char s) sound).1

pub name_printable : (s : List ℕ) → is_name s ≡ true → Printable s
name_printable s sound = all_wider is_name_char is_printable name_char_printable s (and_both _ (list_all is_name_char s) sound).1

pub title_printable : (s : List ℕ) → is_title s ≡ true → Printable s
title_printable s sound =
    let p = and_both (is_between 1 TITLE_MAX (length s) && list_all (is_between 32 126) s) (has_no_edge_space s) sound in
    (and_both (is_between 1 TITLE_MAX (length s)) (list_all (is_between 32 126) s) p.0).1

pub lot_printable : (s : List ℕ) → is_lot_text s ≡ true → Printable s
lot_printable s sound = all_wider is_set_82 is_printable set_82_printable s (and_both (is_between 1 LOT_MAX (length s)) (list_all is_set_82 s) sound).1

-- the digits of a GTIN
digits_of_gtin : (a b c d : Bool) → a && b && c && d ≡ true → b ≡ true
digits_of_gtin a b c d e = (and_both a b (and_both (a && b) c (and_both (a && b && c) d e).0).0).1

pub gtin_printable : (s : List ℕ) → is_gtin s ≡ true → Printable s
gtin_printable s sound = all_wider is_digit is_printable digit_printable s (digits_of_gtin _ (list_all is_digit s) _ _ sound)

figure : (d : ℕ) → d < 10 → Printable ((48 + d) ∷ [])
figure d low = and_true (is_printable (48 + d)) true (within d low) refl
  where
    within : (d : ℕ) → d < 10 → is_printable (48 + d) ≡ true
    within d low = grind (arith, nat_tests)

last_figure : (n : ℕ) → Printable ((48 + n % 10) ∷ [])
last_figure n = figure (n % 10) (omega arith)

pub decimal_printable : (n : ℕ) → n < 2 ^ 64 → Printable (decimal n)
decimal_printable n small =
    decimal_by_steps (λ n ds. Printable ds) (λ n h. figure n h) (λ n ds h l. all-append is_printable ds _ l (last_figure n)) n small

-- a change fits
pub small_size : (n : ℕ) → is_between 1 QTY_MAX n ≡ true → n < 2 ^ 63
small_size n e = grind (arith, nat_tests)

size_printable : (n : ℕ) → is_between 1 QTY_MAX n ≡ true → Printable (decimal n)
size_printable n e = let h = small_size n e in decimal_printable n (omega (arith, h))

pub signed_printable : (z : ℤ) → is_delta z ≡ true → Printable (signed_decimal z)
signed_printable (pos n) sound = size_printable n sound
signed_printable (negsuc n) sound = size_printable (suc n) sound

last_printable : (n x : ℕ) → Printable (last_digits n x)
last_printable zero x = refl
last_printable (suc n) x = all-append is_printable (last_digits n (x / 10)) _ (last_printable n (x / 10)) (last_figure x)

pub day_printable : (day : ℤ) → Printable (day_text day)
day_printable day = let d = date_of day in
    all-append is_printable (last_digits 4 d.year ++ 45 ∷ last_digits 2 d.month) (45 ∷ last_digits 2 d.day)
    (all-append is_printable (last_digits 4 d.year) (45 ∷ last_digits 2 d.month) (last_printable 4 d.year) (last_printable 2 d.month))
    (last_printable 2 d.day)
