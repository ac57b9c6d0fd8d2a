-- Worked examples of labels.
use Rattle.label.proofs.Words.{◌≡◌, ℕ, List, [], ◌∷◌, ◌++◌, codes, refl, ℤ, pos, Some, true, Ok, Err, is_gtin, is_lot_text, day_number, SEPARATOR, label_fault, label_parts, label_read, label_text, BadPrefix, UnknownIdentifier, CutShort, NotADigit, CheckDigit, VariableMeasure, LotEmpty, LotTooLong, LotCharacter, NoSuchDate, IdentifierRepeated, IdentifierMissing, SeparatorMisplaced}
use Rattle.label.proofs.OnLiterals.{dates_on_literals}

-- 2026-05-04
abbrev today : ℤ
today = pos 20577

abbrev gtin : List ℕ
gtin = codes "09506000134352"

abbrev gtin_element : List ℕ
gtin_element = codes "01" ++ gtin

abbrev lot_element : List ℕ
lot_element = codes "10AB12"

abbrev expiry_element : List ℕ
expiry_element = codes "17260930"

gtin_is_sound : is_gtin gtin ≡ true
gtin_is_sound = refl

gs1_128_label_is_read : label_read today (codes "]C1" ++ gtin_element ++ expiry_element ++ lot_element) ≡ Ok (record { gtin = gtin; lot = codes "AB12"; expiry = day_number 2026 9 30 })
unfolding dates_on_literals
gs1_128_label_is_read = refl

separated_lot_is_read : label_read today (gtin_element ++ lot_element ++ SEPARATOR ∷ expiry_element) ≡ Ok (record { gtin = gtin; lot = codes "AB12"; expiry = day_number 2026 9 30 })
unfolding dates_on_literals
separated_lot_is_read = refl

written_label_is_read : label_read today (label_text gtin (codes "AB12") (codes "260930")) ≡ Ok (record { gtin = gtin; lot = codes "AB12"; expiry = day_number 2026 9 30 })
unfolding dates_on_literals
written_label_is_read = refl

parts_of_a_label : label_parts (codes "]C1" ++ gtin_element ++ expiry_element ++ lot_element) ≡ record { gtin = gtin; lot = codes "AB12"; yymmdd = codes "260930" }
parts_of_a_label = refl

-- the lot runs on to the end
lot_without_separator : label_read today (gtin_element ++ lot_element ++ expiry_element) ≡ Err IdentifierMissing
lot_without_separator = refl

lot_of_twenty_characters : is_lot_text (codes "ABCDEFGHIJKLMNOPQRST") ≡ true
lot_of_twenty_characters = refl

lot_of_twenty_one_characters : label_fault today (codes "10ABCDEFGHIJKLMNOPQRSTU") ≡ Some LotTooLong
lot_of_twenty_one_characters = refl

lot_of_no_character : label_fault today (codes "10") ≡ Some LotEmpty
lot_of_no_character = refl

lot_with_a_space : label_fault today (codes "10A B") ≡ Some LotCharacter
lot_with_a_space = refl

text_without_a_byte : label_fault today [] ≡ Some IdentifierMissing
text_without_a_byte = refl

prefix_of_another_symbol : label_fault today (codes "]C2") ≡ Some BadPrefix
prefix_of_another_symbol = refl

identifier_cut_short : label_fault today (codes "0") ≡ Some CutShort
identifier_cut_short = refl

identifier_of_another_profile : label_fault today (codes "2112345") ≡ Some UnknownIdentifier
identifier_of_another_profile = refl

identifier_repeated : label_fault today (gtin_element ++ gtin_element) ≡ Some IdentifierRepeated
identifier_repeated = refl

gtin_cut_short : label_fault today (codes "01095060001343") ≡ Some CutShort
gtin_cut_short = refl

gtin_with_a_letter : label_fault today (codes "010950600013435X") ≡ Some NotADigit
gtin_with_a_letter = refl

gtin_of_variable_measure : label_fault today (codes "0199506000134352") ≡ Some VariableMeasure
gtin_of_variable_measure = refl

gtin_with_a_wrong_check_digit : label_fault today (codes "0109506000134353") ≡ Some CheckDigit
gtin_with_a_wrong_check_digit = refl

date_that_is_no_day : label_fault today (codes "17260931") ≡ Some NoSuchDate
date_that_is_no_day = refl

separator_after_a_gtin : label_fault today (gtin_element ++ SEPARATOR ∷ lot_element) ≡ Some SeparatorMisplaced
separator_after_a_gtin = refl

separator_at_the_end : label_fault today (gtin_element ++ lot_element ++ SEPARATOR ∷ []) ≡ Some SeparatorMisplaced
separator_at_the_end = refl
