-- The short texts are compact JSON: names have nothing to escape.
use Rattle.wire.proofs.Words.{◌≡◌, refl, ℕ, true, false, List, [], ◌∷◌, arith, append_assoc, pos, negsuc, ◌==◌, nat_lt, IsTrue, length, Some, None, list_all, nat_tests, escape, compact_text, is_name, is_name_char, is_between, NAME_MAX, and_both, code_text, code_data, code_row_text, code_row_data, cause_text, cause_data, cause_row_text, cause_row_data, tally_text, tally_data, ChangedBy, Returned, ShipmentNumber, UnitsShort, CommandAnswersAreJson}
use Rattle.json.specs.Print.{escape_byte}
use Rattle.serde_json.proofs.OnLiterals.{serde_json_on_literals}

-- a byte of a name stands for itself
byte_as_it_is : (c : ℕ) → is_name_char c ≡ true → escape_byte c ≡ c ∷ []
unfolding escape_byte
byte_as_it_is c e =
    let quote : (c == 34) ≡ false = grind (arith, nat_tests) in
    let slash : (c == 92) ≡ false = grind (arith, nat_tests) in
    let back : (c == 8) ≡ false = grind (arith, nat_tests) in
    let feed : (c == 12) ≡ false = grind (arith, nat_tests) in
    let line : (c == 10) ≡ false = grind (arith, nat_tests) in
    let carriage : (c == 13) ≡ false = grind (arith, nat_tests) in
    let tab : (c == 9) ≡ false = grind (arith, nat_tests) in
    let low : nat_lt c 32 ≡ false = grind (arith, nat_tests) in
    rw (quote, slash, back, feed, line, carriage, tab, low) refl

text_as_it_is : (s : List ℕ) → list_all is_name_char s ≡ true → escape s ≡ s
text_as_it_is [] e = refl
text_as_it_is (c ∷ cs) e =
    let both = and_both (is_name_char c) (list_all is_name_char cs) e in
    rw (byte_as_it_is c both.0, text_as_it_is cs both.1) refl

pub name_as_it_is : (s : List ℕ) → IsTrue (is_name s) → escape s ≡ s
name_as_it_is s e = text_as_it_is s (and_both (is_between 1 NAME_MAX (length s)) (list_all is_name_char s) e).1

pub code_is_json : (code : List ℕ) → IsTrue (is_name code) → code_text code ≡ compact_text (code_data code)
unfolding serde_json_on_literals
code_is_json code e = simp (name_as_it_is code e, append_assoc) refl

pub code_row_is_json : (code : List ℕ) (row : ℕ) → IsTrue (is_name code) → code_row_text code row ≡ compact_text (code_row_data code row)
unfolding serde_json_on_literals
code_row_is_json code row e = simp (name_as_it_is code e, append_assoc) refl

pub cause_is_json : (cause : List ℕ) → IsTrue (is_name cause) → cause_text cause ≡ compact_text (cause_data cause)
unfolding serde_json_on_literals
cause_is_json cause e = simp (name_as_it_is cause e, append_assoc) refl

pub cause_row_is_json : (cause : List ℕ) (row : ℕ) → IsTrue (is_name cause) → cause_row_text cause row ≡ compact_text (cause_row_data cause row)
unfolding serde_json_on_literals
cause_row_is_json cause row e = simp (name_as_it_is cause e, append_assoc) refl

pub tally_is_json : (accepted repeated : ℕ) → tally_text accepted repeated ≡ compact_text (tally_data accepted repeated)
unfolding serde_json_on_literals
tally_is_json accepted repeated = simp append_assoc refl

pub command_answers_are_json : CommandAnswersAreJson
unfolding serde_json_on_literals
command_answers_are_json act None = simp append_assoc refl
command_answers_are_json act (Some (ChangedBy (pos n))) = simp append_assoc refl
command_answers_are_json act (Some (ChangedBy (negsuc n))) = simp append_assoc refl
command_answers_are_json act (Some (Returned units)) = simp append_assoc refl
command_answers_are_json act (Some (ShipmentNumber number)) = simp append_assoc refl
command_answers_are_json act (Some (UnitsShort units)) = simp append_assoc refl
