-- The digits of a number.
use Rattle.commands.proofs.Below.{decimal_step, length-decimal-le, ◌&&◌, codes, decimal, list_all, nat_tests, is_between, is_name, is_name_char, List, ◌++◌, ◌<◌, ◌+◌, ◌/◌, ◌%◌, ◌^◌, ◌∷◌, [], ◌≡◌, ℕ, ◌≤◌, length, length-append, refl, ap, ◌∙◌, arith, lit<, Bool, true}

-- a number of two digits or more has one digit more than its tenth
pub one_more : (n : ℕ) → 10 ≤ n → n < 2 ^ 64 → length (decimal n) ≡ length (decimal (n / 10)) + 1
one_more n large small = rw (decimal_step n large small, length-append (decimal (n / 10)) ((48 + n % 10) ∷ [])) refl

-- how long a number is
pub long_decimal : (n : ℕ) → n < 2 ^ 64 → length (decimal n) ≤ 20
long_decimal n h = length-decimal-le 20 n (lit< tt) (omega (arith, h)) h

-- how long the number of a delivery's line is
line_digits : (n : ℕ) → n ≤ 9_999 → length (decimal n) ≤ 4
line_digits n low = length-decimal-le 4 n (lit< tt) (omega (arith, low)) (omega (arith, low))

-- how long a name is
name_length : (s : List ℕ) → is_name s ≡ true → length s ≤ 20
name_length s e = short (length s) (list_all is_name_char s) e
  where
    short : (n : ℕ) (b : Bool) → is_between 1 20 n && b ≡ true → n ≤ 20
    short n b e = grind (arith, nat_tests)

-- the text of a line's key is short enough
pub line_room : (t d : List ℕ) (n : ℕ) → t ≡ codes "D/" ++ d ++ 47 ∷ [] ++ decimal n → is_name d ≡ true → n ≤ 9_999 → length t ≤ 27
line_room t d n e sound low =
    let l = ap length e ∙ length-append (codes "D/" ++ d ++ 47 ∷ []) (decimal n) in
    let k = length-append (codes "D/" ++ d) (47 ∷ []) in
    omega (arith, l, k, name_length d sound, line_digits n low)
