-- Spellings and the texts of keys are ASCII.
use Rattle.commands.proofs.Below.{◌≡◌, ℕ, ◌<◌, zero, suc, Bool, true, List, [], ◌∷◌, ◌++◌, refl, arith, lit<, nat_lt, codes, decimal, list_all, join_with_byte, nat_tests, is_name, is_line_no, is_sound, is_sound_key, Key, Plain, Line, Command}
use Rattle.std.specs.Str.{IsAscii}
use Rattle.commands.specs.Spelling.{fields, spelling, key_text}
use Rattle.commands.proofs.Joining.{and_both, all_wider, all-append}
use Rattle.commands.proofs.Printing.{Printable, is_printable, name_printable, decimal_printable}
use Rattle.commands.proofs.Fields.{AllPrintable}
use Rattle.commands.proofs.OneText.{small_line}
use Rattle.commands.proofs.OneSpelling.{PartsPrintable, fields_printable}

abbrev is_low : ℕ → Bool
is_low c = nat_lt c 128

printable_low : (c : ℕ) → is_printable c ≡ true → is_low c ≡ true
printable_low c e = grind (arith, nat_tests)

text_low : (s : List ℕ) → Printable s → list_all is_low s ≡ true
text_low s p = all_wider is_printable is_low printable_low s p

joined_low : (xs : List (List ℕ)) → AllPrintable xs → list_all is_low (join_with_byte 10 xs) ≡ true
joined_low [] p = refl
joined_low (x ∷ []) p = text_low x p.0
joined_low (x ∷ y ∷ ys) p =
    all-append is_low x (10 ∷ join_with_byte 10 (y ∷ ys)) (text_low x p.0) (joined_low (y ∷ ys) p.1)

low_is_ascii : (s : List ℕ) → list_all is_low s ≡ true → IsAscii s
low_is_ascii [] p zero = lit< tt
low_is_ascii [] p (suc i) = lit< tt
low_is_ascii (x ∷ xs) p zero = below x (and_both (is_low x) (list_all is_low xs) p).0
  where
    below : (x : ℕ) → is_low x ≡ true → x < 128
    below x e = grind (arith, nat_tests)
low_is_ascii (x ∷ xs) p (suc i) = low_is_ascii xs (and_both (is_low x) (list_all is_low xs) p).1 i

parts_all : (xs : List (List ℕ)) → PartsPrintable xs → AllPrintable xs
parts_all [] p = absurd p
parts_all (x ∷ xs) p = p

pub spelling_ascii : (a : Command) → is_sound a ≡ true → IsAscii (spelling a)
unfolding spelling
spelling_ascii a sound = low_is_ascii (spelling a) (joined_low (fields a) (parts_all (fields a) (fields_printable a sound)))

pub key_text_ascii : (k : Key) → is_sound_key k ≡ true → IsAscii (key_text k)
key_text_ascii (Plain name) sound = low_is_ascii (key_text (Plain name)) (text_low (key_text (Plain name)) (name_printable name sound))
key_text_ascii (Line delivery line) sound =
    let s = and_both (is_name delivery) (is_line_no line) sound in
    let front = all-append is_printable delivery (codes "/") (name_printable delivery s.0) refl in
    let whole = all-append is_printable (delivery ++ codes "/") (decimal line) front (decimal_printable line (small_line line s.1)) in
    low_is_ascii (key_text (Line delivery line)) (text_low (key_text (Line delivery line)) whole)
