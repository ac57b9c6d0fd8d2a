-- A label read element by element: what was found so far, and what one element adds.
use Rattle.std.specs.Prelude.{◌≡◌, ℕ, zero, suc, Bool, ◌==◌, if◌then◌else◌, List, [], ◌∷◌, length, take, drop, ℤ, Option, Some, None, Result, Ok, Err, is_some}
use Rattle.values.specs.Values.{same_text, first_is}
use Rattle.values.specs.Faults.{sound_or, gtin_text_fault}
use Rattle.label.specs.Expiry.{expiry_read}
use Rattle.label.specs.Labels.{GTIN_IDENTIFIER, LOT_IDENTIFIER, EXPIRY_IDENTIFIER, SEPARATOR, has_bad_prefix, without_prefix, lot_fault, up_to_separator, after_separator}
use Rattle.values.specs.declared.fault.LabelFault.{LabelFault}
use Rattle.values.specs.declared.fault.LabelFault.TheVariants.{BadPrefix, UnknownIdentifier, CutShort, IdentifierRepeated, IdentifierMissing, SeparatorMisplaced}
use Rattle.label.specs.declared.gs1.Label.{Label}
use Rattle.label.specs.declared.reader.Found.{Found}
use Rattle.label.specs.declared.reader.Identifier.{Identifier}
use Rattle.label.specs.declared.reader.Identifier.TheVariants.{ForGtin, ForLot, ForExpiry}

-- the Application Identifier that two bytes are
abbrev pub identifier_at : List ℕ → Result Identifier LabelFault
identifier_at id =
    if first_is SEPARATOR id then Err SeparatorMisplaced
    else (if length id == 1 then Err CutShort
    else (if same_text id GTIN_IDENTIFIER then Ok ForGtin
    else (if same_text id LOT_IDENTIFIER then Ok ForLot
    else (if same_text id EXPIRY_IDENTIFIER then Ok ForExpiry else Err UnknownIdentifier))))

-- an element of this identifier was found before
abbrev pub has_found : Found → Identifier → Bool
has_found found ForGtin = is_some found.gtin
has_found found ForLot = is_some found.lot
has_found found ForExpiry = is_some found.expiry

abbrev pub nothing_found : Found
nothing_found = record { gtin = None; lot = None; expiry = None }

-- what was found after an element, and what of the text follows the element
pub record Step : Type 0 where
  pub found : Found
  pub rest : List ℕ

-- the next step on what was read, or its fault
abbrev pub and_then : {X Y : Type 0} → Result X LabelFault → (X → Result Y LabelFault) → Result Y LabelFault
and_then (Ok x) next = next x
and_then (Err fault) next = Err fault

-- the data field of an element that begins this text, added to what was found
abbrev pub field_read : ℤ → Found → Identifier → List ℕ → Result Step LabelFault
field_read today found ForGtin s =
    and_then (sound_or (gtin_text_fault (take 14 s)) (take 14 s)) (λ gtin. Ok (record { found = record found { gtin = Some gtin }; rest = drop 14 s }))
field_read today found ForLot s =
    and_then (sound_or (lot_fault s) (up_to_separator s)) (λ lot. Ok (record { found = record found { lot = Some lot }; rest = after_separator s }))
field_read today found ForExpiry s =
    and_then (expiry_read today (take 6 s)) (λ day. Ok (record { found = record found { expiry = Some day }; rest = drop 6 s }))

-- the same, if no element of this identifier was found before
abbrev pub new_field_read : ℤ → Found → Identifier → List ℕ → Result Step LabelFault
new_field_read today found identifier s = if has_found found identifier then Err IdentifierRepeated else field_read today found identifier s

-- the element that begins the text
abbrev pub element_read : ℤ → Found → List ℕ → Result Step LabelFault
element_read today found s = and_then (identifier_at (take 2 s)) (λ identifier. new_field_read today found identifier (drop 2 s))

-- the label, once the text has ended
abbrev pub label_found : Found → Result Label LabelFault
label_found found = all_three found.gtin found.lot found.expiry
  where
    all_three : Option (List ℕ) → Option (List ℕ) → Option ℤ → Result Label LabelFault
    all_three (Some gtin) (Some lot) (Some expiry) = Ok (record { gtin = gtin; lot = lot; expiry = expiry })
    all_three None lot expiry = Err IdentifierMissing
    all_three (Some gtin) None expiry = Err IdentifierMissing
    all_three (Some gtin) (Some lot) None = Err IdentifierMissing

-- the elements of a text, at most k of them, after what was found
abbrev pub elements_read : ℕ → ℤ → Found → List ℕ → Result Label LabelFault
elements_read k today found [] = label_found found
elements_read zero today found (c ∷ cs) = Err CutShort
elements_read (suc k) today found (c ∷ cs) = and_then (element_read today found (c ∷ cs)) (λ step. elements_read k today step.found step.rest)

-- the same for any text: it has no more elements than bytes
abbrev pub body_read : ℤ → List ℕ → Result Label LabelFault
body_read today body = elements_read (length body) today nothing_found body

-- the text without its symbology identifier
abbrev pub body_of : List ℕ → Result (List ℕ) LabelFault
body_of s = if has_bad_prefix s then Err BadPrefix else Ok (without_prefix s)

-- the step succeeds, and leaves this found and this rest
abbrev pub IsStep : Result Step LabelFault → Found → List ℕ → Type 0
IsStep step found rest = step ≡ Ok (record { found = found; rest = rest })
