-- A text has no fault as a value exactly if it keeps the rule of that value.
use Rattle.label.proofs.Words.{◌≡◌, ℕ, ◌<◌, Bool, true, false, not, ◌&&◌, List, [], ◌∷◌, length, Option, Some, None, refl, sym, subst, arith, nat_lt as ltb, ◌==◌, ◌%◌, slice_index, IsTrue, ℤ, is_none, option_or, list_all, all_ascii_digits, and_parts, eqb-true, nat_tests, is_gtin, is_lot_text, is_digit, is_set_82, is_between, first_is, weighted_sum, first_fault, gtin_text_fault, lot_text_fault, expiry_day, expiry_text_fault, LabelFault, CutShort, NotADigit, CheckDigit, VariableMeasure, LotEmpty, LotTooLong, LotCharacter, NoSuchDate}
use Rattle.std.proofs.lemmas.Option.{cond_some}

pub both_none : {X : Type 0} (a b : Option X) → option_or a b ≡ None → (a ≡ None) × (b ≡ None)
both_none None b e = (refl, e)
both_none (Some x) b e = absurd (grind arith)

pub none_first : (b : Bool) (f : LabelFault) (cs : List (Bool × LabelFault)) → first_fault ((b, f) ∷ cs) ≡ None → (b ≡ false) × (first_fault cs ≡ None)
none_first true f cs e = absurd (grind arith)
none_first false f cs e = (refl, e)

first_is-index : (d : ℕ) (s : List ℕ) → 0 < length s → first_is d s ≡ (slice_index s 0 == d)
first_is-index d [] h = absurd (omega arith)
first_is-index d (c ∷ cs) h = refl

gtin_tests : (a b c d : Bool) → first_fault ((not a, CutShort) ∷ (not b, NotADigit) ∷ (c, VariableMeasure) ∷ (not d, CheckDigit) ∷ []) ≡ None → (a && b && not c && d) ≡ true
gtin_tests a b c d e = grind arith

gtin_passes : (a b c d : Bool) → (a && b && not c && d) ≡ true → first_fault ((not a, CutShort) ∷ (not b, NotADigit) ∷ (c, VariableMeasure) ∷ (not d, CheckDigit) ∷ []) ≡ None
gtin_passes a b c d e = grind arith

lot_tests : (n : ℕ) (b : Bool) → first_fault ((n == 0, LotEmpty) ∷ (ltb 20 n, LotTooLong) ∷ (not b, LotCharacter) ∷ []) ≡ None → (is_between 1 20 n && b) ≡ true
lot_tests n b e = grind (arith, nat_tests)

lot_passes : (n : ℕ) (b : Bool) → (is_between 1 20 n && b) ≡ true → first_fault ((n == 0, LotEmpty) ∷ (ltb 20 n, LotTooLong) ∷ (not b, LotCharacter) ∷ []) ≡ None
lot_passes n b e = grind (arith, nat_tests)

fourteen : (n : ℕ) (b c d : Bool) → ((n == 14) && b && c && d) ≡ true → n ≡ 14
fourteen n b c d e = grind (arith, nat_tests)

nonempty : (n : ℕ) (b c d : Bool) → ((n == 14) && b && c && d) ≡ true → 0 < n
nonempty n b c d e = omega (arith, fourteen n b c d e)

pub gtin_length : (s : List ℕ) → IsTrue (is_gtin s) → length s ≡ 14
gtin_length s h = fourteen (length s) (list_all is_digit s) (not (slice_index s 0 == 57)) (weighted_sum 3 s % 10 == 0) h

pub is_gtin-from_none : (s : List ℕ) → gtin_text_fault s ≡ None → IsTrue (is_gtin s)
is_gtin-from_none s e =
    let tests = gtin_tests (length s == 14) (list_all is_digit s) (first_is 57 s) (weighted_sum 3 s % 10 == 0) e in
    subst (λ x. ((length s == 14) && list_all is_digit s && not x && (weighted_sum 3 s % 10 == 0)) ≡ true) (first_is-index 57 s (nonempty _ _ _ _ tests)) tests

pub gtin_text_fault-none : (s : List ℕ) → IsTrue (is_gtin s) → gtin_text_fault s ≡ None
gtin_text_fault-none s h =
    gtin_passes (length s == 14) (list_all is_digit s) (first_is 57 s) (weighted_sum 3 s % 10 == 0)
    (subst (λ x. ((length s == 14) && list_all is_digit s && not x && (weighted_sum 3 s % 10 == 0)) ≡ true) (sym (first_is-index 57 s (nonempty _ _ _ _ h))) h)

pub is_lot_text-from_none : (s : List ℕ) → lot_text_fault s ≡ None → IsTrue (is_lot_text s)
is_lot_text-from_none s e = lot_tests (length s) (list_all is_set_82 s) e

pub lot_text_fault-none : (s : List ℕ) → IsTrue (is_lot_text s) → lot_text_fault s ≡ None
lot_text_fault-none s h = lot_passes (length s) (list_all is_set_82 s) h

pub lot_characters : (s : List ℕ) → IsTrue (is_lot_text s) → list_all is_set_82 s ≡ true
lot_characters s h = (and_parts (is_between 1 20 (length s)) _ h).1

-- what names a day is six digits
pub six_digits : (today : ℤ) (s : List ℕ) (day : ℤ) → expiry_day today s ≡ Some day → (length s ≡ 6) × (all_ascii_digits s ≡ true)
six_digits today s day e =
    let tests = and_parts _ _ (and_parts _ _ (cond_some _ _ _ e).0).0 in
    (eqb-true _ _ tests.0, tests.1)

day_of : (o : Option ℤ) → is_none o ≡ false → (day : ℤ) × (o ≡ Some day)
day_of None e = absurd (grind arith)
day_of (Some day) e = (day, refl)

date_tests : (a b c : Bool) → first_fault ((not a, CutShort) ∷ (not b, NotADigit) ∷ (c, NoSuchDate) ∷ []) ≡ None → c ≡ false
date_tests a b c e = grind arith

pub expiry_day-from_none : (today : ℤ) (s : List ℕ) → expiry_text_fault today s ≡ None → (day : ℤ) × (expiry_day today s ≡ Some day)
expiry_day-from_none today s e = day_of (expiry_day today s) (date_tests (length s == 6) (all_ascii_digits s) (is_none (expiry_day today s)) e)

date_passes : (n : ℕ) (b : Bool) (o : Option ℤ) (day : ℤ) → n ≡ 6 → b ≡ true → o ≡ Some day
    → first_fault ((not (n == 6), CutShort) ∷ (not b, NotADigit) ∷ (is_none o, NoSuchDate) ∷ []) ≡ None
date_passes n b o day en eb eo = grind (arith, nat_tests)

pub expiry_text_fault-none : (today : ℤ) (s : List ℕ) (day : ℤ) → expiry_day today s ≡ Some day → expiry_text_fault today s ≡ None
expiry_text_fault-none today s day e =
    let six = six_digits today s day e in
    date_passes (length s) (all_ascii_digits s) (expiry_day today s) day six.0 six.1 e
