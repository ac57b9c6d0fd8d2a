-- The elements of a label, one at a time.
use Rattle.label.proofs.Words.{◌≡◌, ℕ, zero, suc, ◌<◌, ◌≤◌, Bool, false, List, [], ◌∷◌, ◌++◌, length, take, drop, Option, Some, None, refl, ap, ◌∙◌, arith, IsTrue, ℤ, option_or, take_at, drop_at, length-drop, is_gtin, is_lot_text, first_fault, gtin_text_fault, expiry_day, GTIN_IDENTIFIER, LOT_IDENTIFIER, EXPIRY_IDENTIFIER, is_listed, identifier_fault, expiry_text_fault, lot_fault, data_fault, after_data, elements_fault, rest_fault, with_element, elements_parts, rest_parts, LabelFault, IdentifierRepeated}
use Rattle.label.proofs.FaultOrder.{gtin_text_fault-none, gtin_length, lot_text_fault-none, lot_characters, six_digits, expiry_text_fault-none}
use Rattle.label.proofs.LotEnds.{ended, up_to_separator-lot, after_separator-lot, not_trailing}

-- FUEL
after_data_within : (id s : List ℕ) → length (after_data id s) ≤ length s
after_data_within id s = grind (arith, length-drop)

-- what follows an element is shorter than the text that begins with it
pub after_element_shorter : (id : List ℕ) (c : ℕ) (cs : List ℕ) → length (after_data id (drop 2 (c ∷ cs))) < length (c ∷ cs)
after_element_shorter id c cs = omega (arith, after_data_within id (drop 2 (c ∷ cs)), length-drop 1 cs)

-- the answer does not depend on the number of elements that are looked at, once it is the length of the text
pub elements_fault-enough : (k m : ℕ) (today : ℤ) (seen : List (List ℕ)) (s : List ℕ) → length s ≤ k → length s ≤ m
    → elements_fault k today seen s ≡ elements_fault m today seen s
elements_fault-enough zero zero today seen s h i = refl
elements_fault-enough zero (suc m) today seen [] h i = refl
elements_fault-enough (suc k) zero today seen [] h i = refl
elements_fault-enough (suc k) (suc m) today seen [] h i = refl
elements_fault-enough zero (suc m) today seen (c ∷ cs) h i = absurd (omega arith)
elements_fault-enough (suc k) zero today seen (c ∷ cs) h i = absurd (omega arith)
elements_fault-enough (suc k) (suc m) today seen (c ∷ cs) h i =
    let id = take 2 (c ∷ cs) in
    let rest = after_data id (drop 2 (c ∷ cs)) in
    let shorter = after_element_shorter id c cs in
    ap (λ r. option_or (identifier_fault seen id) (option_or (data_fault today id (drop 2 (c ∷ cs))) r))
    (elements_fault-enough k m today (id ∷ seen) rest (omega arith) (omega arith))

pub elements_parts-enough : (k m : ℕ) (s : List ℕ) → length s ≤ k → length s ≤ m → elements_parts k s ≡ elements_parts m s
elements_parts-enough zero zero s h i = refl
elements_parts-enough zero (suc m) [] h i = refl
elements_parts-enough (suc k) zero [] h i = refl
elements_parts-enough (suc k) (suc m) [] h i = refl
elements_parts-enough zero (suc m) (c ∷ cs) h i = absurd (omega arith)
elements_parts-enough (suc k) zero (c ∷ cs) h i = absurd (omega arith)
elements_parts-enough (suc k) (suc m) (c ∷ cs) h i =
    let id = take 2 (c ∷ cs) in
    let rest = after_data id (drop 2 (c ∷ cs)) in
    let shorter = after_element_shorter id c cs in
    ap (with_element id (drop 2 (c ∷ cs))) (elements_parts-enough k m rest (omega arith) (omega arith))

-- ONE ELEMENT, AND THE REST
pub rest_fault-next : (today : ℤ) (seen : List (List ℕ)) (c : ℕ) (cs : List ℕ) →
    let id = take 2 (c ∷ cs) in
    let field = drop 2 (c ∷ cs) in
    rest_fault today seen (c ∷ cs) ≡ option_or (identifier_fault seen id) (option_or (data_fault today id field) (rest_fault today (id ∷ seen) (after_data id field)))
rest_fault-next today seen c cs =
    let id = take 2 (c ∷ cs) in
    let rest = after_data id (drop 2 (c ∷ cs)) in
    let shorter = after_element_shorter id c cs in
    ap (λ r. option_or (identifier_fault seen id) (option_or (data_fault today id (drop 2 (c ∷ cs))) r))
    (elements_fault-enough (length cs) (length rest) today (id ∷ seen) rest (omega arith) (omega arith))

pub rest_parts-next : (c : ℕ) (cs : List ℕ) →
    let id = take 2 (c ∷ cs) in
    let field = drop 2 (c ∷ cs) in
    rest_parts (c ∷ cs) ≡ with_element id field (rest_parts (after_data id field))
rest_parts-next c cs =
    let id = take 2 (c ∷ cs) in
    let rest = after_data id (drop 2 (c ∷ cs)) in
    let shorter = after_element_shorter id c cs in
    ap (with_element id (drop 2 (c ∷ cs))) (elements_parts-enough (length cs) (length rest) rest (omega arith) (omega arith))

-- A SOUND ELEMENT IS PASSED OVER
passed : {X : Type 0} (a b c : Option X) → a ≡ None → b ≡ None → option_or a (option_or b c) ≡ c
passed a b c ea eb = rw (ea, eb) refl

new_identifier : (b : Bool) (f : LabelFault) → b ≡ false → first_fault ((b, f) ∷ []) ≡ None
new_identifier b f e = rw e refl

pub rest_fault-gtin : (today : ℤ) (seen : List (List ℕ)) (g r : List ℕ) → IsTrue (is_gtin g) → is_listed seen GTIN_IDENTIFIER ≡ false
    → rest_fault today seen (GTIN_IDENTIFIER ++ (g ++ r)) ≡ rest_fault today (GTIN_IDENTIFIER ∷ seen) r
rest_fault-gtin today seen g r rule new =
    let long = gtin_length g rule in
    let field : take 14 (g ++ r) ≡ g = take_at g r 14 long in
    rest_fault-next today seen 48 (49 ∷ (g ++ r))
    ∙ passed _ _ _ (new_identifier _ IdentifierRepeated new) (ap gtin_text_fault field ∙ gtin_text_fault-none g rule)
    ∙ ap (rest_fault today (GTIN_IDENTIFIER ∷ seen)) (drop_at g r 14 long)

pub rest_fault-expiry : (today : ℤ) (seen : List (List ℕ)) (e r : List ℕ) (day : ℤ) → expiry_day today e ≡ Some day → is_listed seen EXPIRY_IDENTIFIER ≡ false
    → rest_fault today seen (EXPIRY_IDENTIFIER ++ (e ++ r)) ≡ rest_fault today (EXPIRY_IDENTIFIER ∷ seen) r
rest_fault-expiry today seen e r day rule new =
    let long = (six_digits today e day rule).0 in
    let field : take 6 (e ++ r) ≡ e = take_at e r 6 long in
    rest_fault-next today seen 49 (55 ∷ (e ++ r))
    ∙ passed _ _ _ (new_identifier _ IdentifierRepeated new) (ap (expiry_text_fault today) field ∙ expiry_text_fault-none today e day rule)
    ∙ ap (rest_fault today (EXPIRY_IDENTIFIER ∷ seen)) (drop_at e r 6 long)

lot_fault_none : (l r : List ℕ) → IsTrue (is_lot_text l) → lot_fault (l ++ ended r) ≡ None
lot_fault_none l r rule =
    let lot = up_to_separator-lot l r (lot_characters l rule) in
    rw (lot, lot_text_fault-none l rule, not_trailing l r) refl

pub rest_fault-lot : (today : ℤ) (seen : List (List ℕ)) (l r : List ℕ) → IsTrue (is_lot_text l) → is_listed seen LOT_IDENTIFIER ≡ false
    → rest_fault today seen (LOT_IDENTIFIER ++ (l ++ ended r)) ≡ rest_fault today (LOT_IDENTIFIER ∷ seen) r
rest_fault-lot today seen l r rule new =
    rest_fault-next today seen 49 (48 ∷ (l ++ ended r))
    ∙ passed _ _ _ (new_identifier _ IdentifierRepeated new) (lot_fault_none l r rule)
    ∙ ap (rest_fault today (LOT_IDENTIFIER ∷ seen)) (after_separator-lot l r (lot_characters l rule))

pub rest_parts-gtin : (g r : List ℕ) → IsTrue (is_gtin g) → rest_parts (GTIN_IDENTIFIER ++ (g ++ r)) ≡ record (rest_parts r) { gtin = g }
rest_parts-gtin g r rule =
    let long = gtin_length g rule in
    let field : take 14 (g ++ r) ≡ g = take_at g r 14 long in
    let rest : drop 14 (g ++ r) ≡ r = drop_at g r 14 long in
    rest_parts-next 48 (49 ∷ (g ++ r)) ∙ rw (field, rest) refl

pub rest_parts-expiry : (today : ℤ) (e r : List ℕ) (day : ℤ) → expiry_day today e ≡ Some day → rest_parts (EXPIRY_IDENTIFIER ++ (e ++ r)) ≡ record (rest_parts r) { yymmdd = e }
rest_parts-expiry today e r day rule =
    let long = (six_digits today e day rule).0 in
    let field : take 6 (e ++ r) ≡ e = take_at e r 6 long in
    let rest : drop 6 (e ++ r) ≡ r = drop_at e r 6 long in
    rest_parts-next 49 (55 ∷ (e ++ r)) ∙ rw (field, rest) refl

pub rest_parts-lot : (l r : List ℕ) → IsTrue (is_lot_text l) → rest_parts (LOT_IDENTIFIER ++ (l ++ ended r)) ≡ record (rest_parts r) { lot = l }
rest_parts-lot l r rule =
    let field = up_to_separator-lot l r (lot_characters l rule) in
    let rest = after_separator-lot l r (lot_characters l rule) in
    rest_parts-next 49 (48 ∷ (l ++ ended r)) ∙ rw (field, rest) refl
