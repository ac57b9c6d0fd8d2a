-- Reading a label element by element gives what the definition of a label says.
use Rattle.label.proofs.Words.{◌≡◌, ℕ, zero, suc, Bool, true, false, not, List, [], ◌∷◌, length, take, drop, ℤ, pos, Option, Some, None, Result, Ok, Err, refl, ap, sym, subst, ◌∙◌, unwrap_or, ◌==◌, if◌then◌else◌, is_some, is_none, option_or, ok_or, all_ascii_digits, bytes_eq-Decides, same_text, first_is, first_fault, sound_or, gtin_text_fault, LabelParts, GTIN_IDENTIFIER, LOT_IDENTIFIER, EXPIRY_IDENTIFIER, SEPARATOR, is_listed, identifier_fault, expiry_text_fault, data_fault, lot_fault, up_to_separator, after_separator, after_data, elements_fault, rest_fault, has_bad_prefix, without_prefix, with_element, elements_parts, rest_parts, label_of, label_read, Step, identifier_at, new_field_read, label_found, elements_read, body_read, body_of, and_then, nothing_found, LabelFault, BadPrefix, UnknownIdentifier, CutShort, NotADigit, NoSuchDate, SeparatorMisplaced, Label, Found}
use Rattle.label.specs.Expiry.{expiry_day, expiry_read}

-- what was found is what the identifiers seen stand for
pub record Tells (seen : List (List ℕ)) (found : Found) : Type 0 where
  pub gtin : is_listed seen GTIN_IDENTIFIER ≡ is_some found.gtin
  pub lot : is_listed seen LOT_IDENTIFIER ≡ is_some found.lot
  pub expiry : is_listed seen EXPIRY_IDENTIFIER ≡ is_some found.expiry

-- what was found, and the parts of the rest for what was not
abbrev pub completed : ℤ → Found → LabelParts → Label
completed today found p = record {
  gtin = unwrap_or found.gtin p.gtin;
  lot = unwrap_or found.lot p.lot;
  expiry = unwrap_or found.expiry (unwrap_or (expiry_day today p.yymmdd) (pos 0));
}

-- either two bytes are an identifier, or the reading has the fault of the definition
identifier_cases : (seen : List (List ℕ)) (id : List ℕ) (P : List ℕ → Type 0) → P GTIN_IDENTIFIER → P LOT_IDENTIFIER → P EXPIRY_IDENTIFIER
    → ((fault : LabelFault) → identifier_at id ≡ Err fault → identifier_fault seen id ≡ Some fault → P id) → P id
identifier_cases seen id P g l e other =
    elim (first_is SEPARATOR id) as (λ b. first_is SEPARATOR id ≡ b → P id) [
      | true ↦ λ h. other SeparatorMisplaced (rw h refl) (rw h refl)
      | false ↦ λ h. elim (length id == 1) as (λ b. (length id == 1) ≡ b → P id) [
        | true ↦ λ i. other CutShort (rw (h, i) refl) (rw (h, i) refl)
        | false ↦ λ i. elim (same_text id GTIN_IDENTIFIER) as (λ b. same_text id GTIN_IDENTIFIER ≡ b → P id) [
          | true ↦ λ j. subst P (sym (eq_of id GTIN_IDENTIFIER j)) g
          | false ↦ λ j. elim (same_text id LOT_IDENTIFIER) as (λ b. same_text id LOT_IDENTIFIER ≡ b → P id) [
            | true ↦ λ k. subst P (sym (eq_of id LOT_IDENTIFIER k)) l
            | false ↦ λ k. elim (same_text id EXPIRY_IDENTIFIER) as (λ b. same_text id EXPIRY_IDENTIFIER ≡ b → P id) [
              | true ↦ λ m. subst P (sym (eq_of id EXPIRY_IDENTIFIER m)) e
              | false ↦ λ m. other UnknownIdentifier (rw (h, i, j, k, m) refl) (rw (h, i, j, k, m) refl)
            ] refl
          ] refl
        ] refl
      ] refl
    ] refl
  where
    eq_of : (a b : List ℕ) → same_text a b ≡ true → a ≡ b
    eq_of a b h = (bytes_eq-Decides a b).0 h

-- steps after steps, and a field whose fault is judged before what follows
and_then_then : {X Y Z : Type 0} (r : Result X LabelFault) (f : X → Result Y LabelFault) (g : Y → Result Z LabelFault)
    → and_then (and_then r f) g ≡ and_then r (λ x. and_then (f x) g)
and_then_then (Ok x) f g = refl
and_then_then (Err fault) f g = refl

field_then : {X : Type 0} (fault later : Option LabelFault) (x : X) (next : X → Result Label LabelFault) (label : Label)
    → next x ≡ sound_or later label → and_then (sound_or fault x) next ≡ sound_or (option_or fault later) label
field_then None later x next label h = h
field_then (Some fault) later x next label h = refl

-- the reading of six digits has the fault of the definition
expiry_read-fault : (today : ℤ) (s : List ℕ) → expiry_read today s ≡ sound_or (expiry_text_fault today s) (unwrap_or (expiry_day today s) (pos 0))
unfolding expiry_read
expiry_read-fault today s = one_of (not (length s == 6)) (not (all_ascii_digits s)) (expiry_day today s)
  where
    one_of : (a b : Bool) (o : Option ℤ) → (if a then Err CutShort else (if b then Err NotADigit else ok_or o NoSuchDate))
        ≡ sound_or (first_fault ((a, CutShort) ∷ (b, NotADigit) ∷ (is_none o, NoSuchDate) ∷ [])) (unwrap_or o (pos 0))
    one_of true b o = refl
    one_of false true o = refl
    one_of false false None = refl
    one_of false false (Some day) = refl

module _ (k : ℕ) (today : ℤ) where
  -- reading and definition agree on every text of k elements at most
  abbrev pub Agrees : Type 0
  Agrees = (found : Found) (seen : List (List ℕ)) (s : List ℕ) → Tells seen found
      → elements_read k today found s ≡ sound_or (elements_fault k today seen s) (completed today found (elements_parts k s))

  -- they agree on an element with this identifier and field
  abbrev pub AgreesAt : Found → List (List ℕ) → List ℕ → List ℕ → Type 0
  AgreesAt found seen field id =
      and_then (and_then (identifier_at id) (λ identifier. new_field_read today found identifier field)) (λ step. elements_read k today step.found step.rest)
      ≡ sound_or (option_or (identifier_fault seen id) (option_or (data_fault today id field) (elements_fault k today (id ∷ seen) (after_data id field))))
      (completed today found (with_element id field (elements_parts k (after_data id field))))

  abbrev Turn : Result Step LabelFault → Result Label LabelFault
  Turn r = and_then r (λ step. elements_read k today step.found step.rest)

  gtin_agrees : Agrees → (gtin : Option (List ℕ)) (lot : Option (List ℕ)) (expiry : Option ℤ) (seen : List (List ℕ)) (field : List ℕ)
      → Tells seen (record { gtin = gtin; lot = lot; expiry = expiry }) → AgreesAt (record { gtin = gtin; lot = lot; expiry = expiry }) seen field GTIN_IDENTIFIER
  gtin_agrees rest (Some g) lot expiry seen field tells = rw tells.gtin refl
  gtin_agrees rest None lot expiry seen field tells =
      let found : Found = record { gtin = Some (take 14 field); lot = lot; expiry = expiry } in
      let told : Tells (GTIN_IDENTIFIER ∷ seen) found = record { gtin = refl; lot = tells.lot; expiry = tells.expiry } in
      rw tells.gtin
      (and_then_then (sound_or (gtin_text_fault (take 14 field)) (take 14 field)) _ _
      ∙ field_then (gtin_text_fault (take 14 field)) (elements_fault k today (GTIN_IDENTIFIER ∷ seen) (drop 14 field)) (take 14 field) _ _
      (rest found (GTIN_IDENTIFIER ∷ seen) (drop 14 field) told))

  lot_agrees : Agrees → (gtin : Option (List ℕ)) (lot : Option (List ℕ)) (expiry : Option ℤ) (seen : List (List ℕ)) (field : List ℕ)
      → Tells seen (record { gtin = gtin; lot = lot; expiry = expiry }) → AgreesAt (record { gtin = gtin; lot = lot; expiry = expiry }) seen field LOT_IDENTIFIER
  lot_agrees rest gtin (Some l) expiry seen field tells = rw tells.lot refl
  lot_agrees rest gtin None expiry seen field tells =
      let found : Found = record { gtin = gtin; lot = Some (up_to_separator field); expiry = expiry } in
      let told : Tells (LOT_IDENTIFIER ∷ seen) found = record { gtin = tells.gtin; lot = refl; expiry = tells.expiry } in
      rw tells.lot
      (and_then_then (sound_or (lot_fault field) (up_to_separator field)) _ _
      ∙ field_then (lot_fault field) (elements_fault k today (LOT_IDENTIFIER ∷ seen) (after_separator field)) (up_to_separator field) _ _
      (rest found (LOT_IDENTIFIER ∷ seen) (after_separator field) told))

  expiry_agrees : Agrees → (gtin : Option (List ℕ)) (lot : Option (List ℕ)) (expiry : Option ℤ) (seen : List (List ℕ)) (field : List ℕ)
      → Tells seen (record { gtin = gtin; lot = lot; expiry = expiry }) → AgreesAt (record { gtin = gtin; lot = lot; expiry = expiry }) seen field EXPIRY_IDENTIFIER
  expiry_agrees rest gtin lot (Some e) seen field tells = rw tells.expiry refl
  expiry_agrees rest gtin lot None seen field tells =
      let day : ℤ = unwrap_or (expiry_day today (take 6 field)) (pos 0) in
      let found : Found = record { gtin = gtin; lot = lot; expiry = Some day } in
      let told : Tells (EXPIRY_IDENTIFIER ∷ seen) found = record { gtin = tells.gtin; lot = tells.lot; expiry = refl } in
      rw tells.expiry
      (ap (λ r. Turn (and_then r (λ day. Ok (record { found = record { gtin = gtin; lot = lot; expiry = Some day }; rest = drop 6 field })))) (expiry_read-fault today (take 6 field))
      ∙ and_then_then (sound_or (expiry_text_fault today (take 6 field)) day) _ _
      ∙ field_then (expiry_text_fault today (take 6 field)) (elements_fault k today (EXPIRY_IDENTIFIER ∷ seen) (drop 6 field)) day _ _
      (rest found (EXPIRY_IDENTIFIER ∷ seen) (drop 6 field) told))

  element_agrees : Agrees → (found : Found) (seen : List (List ℕ)) (field id : List ℕ) → Tells seen found → AgreesAt found seen field id
  element_agrees rest found seen field id tells =
      identifier_cases seen id (AgreesAt found seen field)
      (gtin_agrees rest found.gtin found.lot found.expiry seen field tells)
      (lot_agrees rest found.gtin found.lot found.expiry seen field tells)
      (expiry_agrees rest found.gtin found.lot found.expiry seen field tells)
      (λ fault h i. ap (λ r. Turn (and_then r (λ identifier. new_field_read today found identifier field))) h
      ∙ sym (ap (λ o. sound_or (option_or o (option_or (data_fault today id field) (elements_fault k today (id ∷ seen) (after_data id field))))
      (completed today found (with_element id field (elements_parts k (after_data id field))))) i))

-- at the end of the text an identifier is missing, or all were found
ended_agrees : (today : ℤ) (gtin lot : Option (List ℕ)) (expiry : Option ℤ) (seen : List (List ℕ)) (p : LabelParts)
    → Tells seen (record { gtin = gtin; lot = lot; expiry = expiry })
    → label_found (record { gtin = gtin; lot = lot; expiry = expiry })
    ≡ sound_or (elements_fault 0 today seen []) (completed today (record { gtin = gtin; lot = lot; expiry = expiry }) p)
ended_agrees today None lot expiry seen p tells = rw tells.gtin refl
ended_agrees today (Some g) None expiry seen p tells = rw (tells.gtin, tells.lot) refl
ended_agrees today (Some g) (Some l) None seen p tells = rw (tells.gtin, tells.lot, tells.expiry) refl
ended_agrees today (Some g) (Some l) (Some e) seen p tells = rw (tells.gtin, tells.lot, tells.expiry) refl

elements_agree : (k : ℕ) (today : ℤ) → Agrees k today
elements_agree zero today found seen [] tells = ended_agrees today found.gtin found.lot found.expiry seen (elements_parts 0 []) tells
elements_agree zero today found seen (c ∷ cs) tells = refl
elements_agree (suc k) today found seen [] tells = ended_agrees today found.gtin found.lot found.expiry seen (elements_parts (suc k) []) tells
elements_agree (suc k) today found seen (c ∷ cs) tells =
    element_agrees k today (elements_agree k today) found seen (drop 2 (c ∷ cs)) (take 2 (c ∷ cs)) tells

-- the reading of a text is what the definition of a label says of it
pub label_read_by_elements : (today : ℤ) (s : List ℕ) → and_then (body_of s) (body_read today) ≡ label_read today s
label_read_by_elements today s =
    elim (has_bad_prefix s) as (λ b. and_then (if b then Err BadPrefix else Ok (without_prefix s)) (body_read today)
    ≡ sound_or (if b then Some BadPrefix else rest_fault today [] (without_prefix s)) (label_of today (rest_parts (without_prefix s)))) [
      | true ↦ refl
      | false ↦ elements_agree (length (without_prefix s)) today nothing_found [] (without_prefix s) (record { gtin = refl; lot = refl; expiry = refl })
    ]
