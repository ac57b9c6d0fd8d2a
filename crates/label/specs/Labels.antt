-- Labels by the GS1 General Specifications, for the Application Identifiers 01 (GTIN), 10 (batch or lot) and 17 (expiration date).
-- A label is said twice: by its grammar, and by the fault of the first unsound element.
use Rattle.std.specs.Prelude.{◌≡◌, ℕ, zero, suc, ◌+◌, Bool, not, ◌&&◌, ◌==◌, if◌then◌else◌, List, [], ◌∷◌, ◌++◌, length, take, drop, codes, IsTrue, ℤ, pos, Option, Some, Result, Contains, is_none, unwrap_or}
use Rattle.std.specs.List.{list_all, list_any, before_first, after_first}
use Rattle.std.specs.Option.{option_or}
use Rattle.std.specs.Str.{all_ascii_digits}
use Rattle.values.specs.Values.{same_text, is_gtin, is_lot_text, first_is}
use Rattle.values.specs.Faults.{first_fault, sound_or, gtin_text_fault, lot_text_fault}
use Rattle.label.specs.Expiry.{expiry_day}
use Rattle.values.specs.declared.fault.LabelFault.{LabelFault}
use Rattle.values.specs.declared.fault.LabelFault.TheVariants.{BadPrefix, UnknownIdentifier, CutShort, NotADigit, NoSuchDate, IdentifierRepeated, IdentifierMissing, SeparatorMisplaced}
use Rattle.label.specs.declared.gs1.Label.{Label}

-- the Application Identifiers, and the byte that ends a lot which is not last
abbrev pub GTIN_IDENTIFIER : List ℕ
GTIN_IDENTIFIER = codes "01"

abbrev pub LOT_IDENTIFIER : List ℕ
LOT_IDENTIFIER = codes "10"

abbrev pub EXPIRY_IDENTIFIER : List ℕ
EXPIRY_IDENTIFIER = codes "17"

abbrev pub SEPARATOR : ℕ
SEPARATOR = 29

-- the symbology identifiers of GS1-128, GS1 DataMatrix and GS1 QR Code, or none
abbrev pub prefixes : List (List ℕ)
prefixes = [] ∷ codes "]C1" ∷ codes "]d2" ∷ codes "]Q3" ∷ []

-- THE GRAMMAR
-- what stands in a label: the GTIN, the lot, and the six digits YYMMDD of the expiration date
pub record LabelParts : Type 0 where
  pub gtin : List ℕ
  pub lot : List ℕ
  pub yymmdd : List ℕ

-- the three elements in one of their six orders; the separator stands after the lot exactly where the lot is not last
abbrev pub arrangements : LabelParts → List (List ℕ)
arrangements p =
    let g = GTIN_IDENTIFIER ++ p.gtin in
    let l = LOT_IDENTIFIER ++ p.lot in
    let e = EXPIRY_IDENTIFIER ++ p.yymmdd in
    (g ++ e ++ l) ∷ (e ++ g ++ l)
    ∷ (g ++ l ++ SEPARATOR ∷ e) ∷ (e ++ l ++ SEPARATOR ∷ g)
    ∷ (l ++ SEPARATOR ∷ g ++ e) ∷ (l ++ SEPARATOR ∷ e ++ g) ∷ []

-- the text is a label of these parts: a prefix, then the elements, and each value keeps its rule
pub record IsLabel (today : ℤ) (text : List ℕ) (p : LabelParts) (expiry : ℤ) : Type 0 where
  pub prefix : List ℕ
  pub body : List ℕ
  pub is_prefix : Contains prefixes prefix
  pub is_body : Contains (arrangements p) body
  pub text_is : text ≡ prefix ++ body
  pub gtin_rule : IsTrue (is_gtin p.gtin)
  pub lot_rule : IsTrue (is_lot_text p.lot)
  pub expiry_rule : expiry_day today p.yymmdd ≡ Some expiry

-- the text is a label with these values: six digits in it name the expiry day
pub record IsLabelOf (today : ℤ) (text : List ℕ) (label : Label) : Type 0 where
  pub yymmdd : List ℕ
  pub is_label : IsLabel today text (record { gtin = label.gtin; lot = label.lot; yymmdd = yymmdd }) label.expiry

-- THE FAULTS
abbrev pub is_listed : List (List ℕ) → List ℕ → Bool
is_listed texts s = list_any (same_text s) texts

abbrev pub identifiers : List (List ℕ)
identifiers = GTIN_IDENTIFIER ∷ LOT_IDENTIFIER ∷ EXPIRY_IDENTIFIER ∷ []

-- what is wrong with the two bytes that begin an element, or the one that is left; the identifiers before it are seen
abbrev pub identifier_fault : List (List ℕ) → List ℕ → Option LabelFault
identifier_fault seen id = first_fault
    ((first_is SEPARATOR id, SeparatorMisplaced) ∷ (length id == 1, CutShort)
    ∷ (not (is_listed identifiers id), UnknownIdentifier) ∷ (is_listed seen id, IdentifierRepeated) ∷ [])

-- what is wrong with six characters as an expiration date
abbrev pub expiry_text_fault : ℤ → List ℕ → Option LabelFault
expiry_text_fault today s = first_fault
    ((not (length s == 6), CutShort) ∷ (not (all_ascii_digits s), NotADigit) ∷ (is_none (expiry_day today s), NoSuchDate) ∷ [])

-- the bytes up to the first separator, or all if there is none, and those after it
abbrev pub up_to_separator : List ℕ → List ℕ
up_to_separator s = before_first (λ c. c == SEPARATOR) s

abbrev pub after_separator : List ℕ → List ℕ
after_separator s = after_first (λ c. c == SEPARATOR) s

-- what is wrong with the lot that begins this text; the separator that ends a lot does not end the text
abbrev pub lot_fault : List ℕ → Option LabelFault
lot_fault s = let lot = up_to_separator s in
    option_or (lot_text_fault lot) (first_fault ((length s == length lot + 1, SeparatorMisplaced) ∷ []))

-- what is wrong with the data field of an element, and what follows it
abbrev pub data_fault : ℤ → List ℕ → List ℕ → Option LabelFault
data_fault today id s =
    if same_text id GTIN_IDENTIFIER then gtin_text_fault (take 14 s)
    else (if same_text id EXPIRY_IDENTIFIER then expiry_text_fault today (take 6 s) else lot_fault s)

abbrev pub after_data : List ℕ → List ℕ → List ℕ
after_data id s =
    if same_text id GTIN_IDENTIFIER then drop 14 s
    else (if same_text id EXPIRY_IDENTIFIER then drop 6 s else after_separator s)

-- the fault of the first unsound element, where the text has k elements at most; a missing identifier is judged last
abbrev pub elements_fault : ℕ → ℤ → List (List ℕ) → List ℕ → Option LabelFault
elements_fault k today seen [] = first_fault ((not (list_all (is_listed seen) identifiers), IdentifierMissing) ∷ [])
elements_fault zero today seen (c ∷ cs) = Some CutShort
elements_fault (suc k) today seen (c ∷ cs) =
    let id = take 2 (c ∷ cs) in
    let field = drop 2 (c ∷ cs) in
    option_or (identifier_fault seen id) (option_or (data_fault today id field) (elements_fault k today (id ∷ seen) (after_data id field)))

-- the same for any text: it has no more elements than bytes
abbrev pub rest_fault : ℤ → List (List ℕ) → List ℕ → Option LabelFault
rest_fault today seen s = elements_fault (length s) today seen s

-- the text begins as a prefix does, and with none of them
abbrev pub has_bad_prefix : List ℕ → Bool
has_bad_prefix s = first_is 93 s && not (is_listed prefixes (take 3 s))

abbrev pub without_prefix : List ℕ → List ℕ
without_prefix s = if first_is 93 s then drop 3 s else s

-- the fault of a text that is no label
abbrev pub label_fault : ℤ → List ℕ → Option LabelFault
label_fault today s = if has_bad_prefix s then Some BadPrefix else rest_fault today [] (without_prefix s)

-- WHAT A LABEL SAYS
-- the parts with those of one more element
abbrev pub with_element : List ℕ → List ℕ → LabelParts → LabelParts
with_element id s p =
    if same_text id GTIN_IDENTIFIER then record p { gtin = take 14 s }
    else (if same_text id EXPIRY_IDENTIFIER then record p { yymmdd = take 6 s } else record p { lot = up_to_separator s })

-- the parts that stand in a text of k elements at most
abbrev pub elements_parts : ℕ → List ℕ → LabelParts
elements_parts k [] = record { gtin = []; lot = []; yymmdd = [] }
elements_parts zero (c ∷ cs) = record { gtin = []; lot = []; yymmdd = [] }
elements_parts (suc k) (c ∷ cs) =
    let id = take 2 (c ∷ cs) in
    let field = drop 2 (c ∷ cs) in
    with_element id field (elements_parts k (after_data id field))

-- the same for any text
abbrev pub rest_parts : List ℕ → LabelParts
rest_parts s = elements_parts (length s) s

-- the parts of a text that has no fault
abbrev pub label_parts : List ℕ → LabelParts
label_parts s = rest_parts (without_prefix s)

-- the values of parts whose six digits name a day
abbrev pub label_of : ℤ → LabelParts → Label
label_of today p = record { gtin = p.gtin; lot = p.lot; expiry = unwrap_or (expiry_day today p.yymmdd) (pos 0) }

-- what a text reads as: its fault, or else the values of the label that it is
abbrev pub label_read : ℤ → List ℕ → Result Label LabelFault
label_read today s = sound_or (label_fault today s) (label_of today (label_parts s))

-- the text of a label as it is written: no prefix, and the lot last
abbrev pub label_text : List ℕ → List ℕ → List ℕ → List ℕ
label_text gtin lot yymmdd = GTIN_IDENTIFIER ++ gtin ++ EXPIRY_IDENTIFIER ++ yymmdd ++ LOT_IDENTIFIER ++ lot
