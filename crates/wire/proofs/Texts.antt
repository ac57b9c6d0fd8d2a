-- The texts of values are ASCII, and so they are UTF-8.
use Rattle.wire.proofs.Words.{◌≡◌, ℕ, ◌<◌, true, List, [], ◌∷◌, zero, suc, arith, lit<, ℤ, IsUtf8, IsTrue, list_all, IsAscii, nat_tests, IsUtf8-from_ascii, is_name, is_title, is_gtin, is_lot_text, day_text, and_both, is_printable, Printable, name_printable, title_printable, gtin_printable, lot_printable, day_printable}

byte_is_ascii : (c : ℕ) → is_printable c ≡ true → c < 128
byte_is_ascii c e = grind (arith, nat_tests)

are_ascii : (s : List ℕ) → Printable s → IsAscii s
are_ascii [] p zero = lit< tt
are_ascii [] p (suc i) = lit< tt
are_ascii (x ∷ xs) p zero = byte_is_ascii x (and_both (is_printable x) (list_all is_printable xs) p).0
are_ascii (x ∷ xs) p (suc i) = are_ascii xs (and_both (is_printable x) (list_all is_printable xs) p).1 i

is_utf8 : (s : List ℕ) → Printable s → IsUtf8 s
is_utf8 s p = IsUtf8-from_ascii s (are_ascii s p)

pub name_is_utf8 : (s : List ℕ) → IsTrue (is_name s) → IsUtf8 s
name_is_utf8 s e = is_utf8 s (name_printable s e)

pub title_is_utf8 : (s : List ℕ) → IsTrue (is_title s) → IsUtf8 s
title_is_utf8 s e = is_utf8 s (title_printable s e)

pub gtin_is_utf8 : (s : List ℕ) → IsTrue (is_gtin s) → IsUtf8 s
gtin_is_utf8 s e = is_utf8 s (gtin_printable s e)

pub lot_is_utf8 : (s : List ℕ) → IsTrue (is_lot_text s) → IsUtf8 s
lot_is_utf8 s e = is_utf8 s (lot_printable s e)

pub day_is_utf8 : (day : ℤ) → IsUtf8 (day_text day)
day_is_utf8 day = is_utf8 (day_text day) (day_printable day)
