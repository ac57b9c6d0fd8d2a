-- The faults of labels: their codes, and the order in which they are judged.
use Rattle.std.specs.Prelude.{ℕ, ◌%◌, Bool, not, ◌==◌, nat_lt, if◌then◌else◌, List, [], ◌∷◌, length, codes, Option, Some, None, Result, Ok, Err}
use Rattle.std.specs.List.{list_all}
use Rattle.std.specs.Str.{all_ascii_digits}
use Rattle.values.specs.Values.{LOT_MAX, is_set_82, weighted_sum, first_is}
use Rattle.values.specs.declared.fault.LabelFault.{LabelFault}
use Rattle.values.specs.declared.fault.LabelFault.TheVariants.{BadPrefix, UnknownIdentifier, CutShort, NotADigit, CheckDigit, VariableMeasure, LotEmpty, LotTooLong, LotCharacter, NoSuchDate, IdentifierRepeated, IdentifierMissing, SeparatorMisplaced, OutOfMemory}

abbrev pub fault_code : LabelFault → List ℕ
fault_code BadPrefix = codes "L01"
fault_code UnknownIdentifier = codes "L02"
fault_code CutShort = codes "L03"
fault_code NotADigit = codes "L04"
fault_code CheckDigit = codes "L05"
fault_code VariableMeasure = codes "L06"
fault_code LotEmpty = codes "L07"
fault_code LotTooLong = codes "L08"
fault_code LotCharacter = codes "L09"
fault_code NoSuchDate = codes "L10"
fault_code IdentifierRepeated = codes "L11"
fault_code IdentifierMissing = codes "L12"
fault_code SeparatorMisplaced = codes "L13"
fault_code OutOfMemory = codes "L90"

-- conditions and faults in the order of judging: the fault of the first condition that holds
abbrev pub first_fault : List (Bool × LabelFault) → Option LabelFault
first_fault [] = None
first_fault (c ∷ cs) = if c.0 then Some c.1 else first_fault cs

-- the value, or its fault
abbrev pub sound_or : {X : Type 0} → Option LabelFault → X → Result X LabelFault
sound_or None x = Ok x
sound_or (Some fault) x = Err fault

-- what is wrong with fourteen characters as a GTIN
abbrev pub gtin_text_fault : List ℕ → Option LabelFault
gtin_text_fault s = first_fault
    ((not (length s == 14), CutShort) ∷ (not (all_ascii_digits s), NotADigit) ∷ (first_is 57 s, VariableMeasure)
    ∷ (not (weighted_sum 3 s % 10 == 0), CheckDigit) ∷ [])

-- what is wrong with a text as a lot
abbrev pub lot_text_fault : List ℕ → Option LabelFault
lot_text_fault s = first_fault
    ((length s == 0, LotEmpty) ∷ (nat_lt LOT_MAX (length s), LotTooLong) ∷ (not (list_all is_set_82 s), LotCharacter) ∷ [])
