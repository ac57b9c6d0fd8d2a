-- A text without a fault begins with a sound element, or is at its end.
use Rattle.label.proofs.Words.{◌≡◌, ℕ, ◌+◌, Bool, true, false, not, List, [], ◌∷◌, ◌++◌, length, take, drop, Some, None, refl, sym, ap, ◌∙◌, subst, arith, ⊎_elim, ◌⊎◌, inl, inr, ◌==◌, IsTrue, ℤ, list_all, or_cases, false≢true, not-false, take-append-drop, bytes_eq-Decides, same_text, is_gtin, is_lot_text, first_is, first_fault, gtin_text_fault, lot_text_fault, expiry_day, SEPARATOR, GTIN_IDENTIFIER, LOT_IDENTIFIER, EXPIRY_IDENTIFIER, is_listed, identifiers, identifier_fault, expiry_text_fault, up_to_separator, after_separator, lot_fault, data_fault, after_data, rest_fault, UnknownIdentifier, CutShort, IdentifierRepeated, IdentifierMissing, SeparatorMisplaced}
use Rattle.label.proofs.FaultOrder.{both_none, none_first, is_gtin-from_none, is_lot_text-from_none, expiry_day-from_none}
use Rattle.label.proofs.LotEnds.{ended, lot_and_rest}
use Rattle.label.proofs.Elements.{rest_fault-next}

-- what a text without a fault begins with, the identifiers before it being seen
pub data FirstElement (today : ℤ) (seen : List (List ℕ)) (s : List ℕ) : Type 0 where
  nothing : s ≡ [] → list_all (is_listed seen) identifiers ≡ true → FirstElement today seen s
  gtin : (g r : List ℕ) → s ≡ GTIN_IDENTIFIER ++ (g ++ r) → IsTrue (is_gtin g)
      → is_listed seen GTIN_IDENTIFIER ≡ false → rest_fault today (GTIN_IDENTIFIER ∷ seen) r ≡ None → FirstElement today seen s
  lot : (l r : List ℕ) → s ≡ LOT_IDENTIFIER ++ (l ++ ended r) → IsTrue (is_lot_text l)
      → is_listed seen LOT_IDENTIFIER ≡ false → rest_fault today (LOT_IDENTIFIER ∷ seen) r ≡ None → FirstElement today seen s
  expiry : (e r : List ℕ) (day : ℤ) → s ≡ EXPIRY_IDENTIFIER ++ (e ++ r) → expiry_day today e ≡ Some day
      → is_listed seen EXPIRY_IDENTIFIER ≡ false → rest_fault today (EXPIRY_IDENTIFIER ∷ seen) r ≡ None → FirstElement today seen s

identifier_tests : (a b c d : Bool) → first_fault ((a, SeparatorMisplaced) ∷ (b, CutShort) ∷ (not c, UnknownIdentifier) ∷ (d, IdentifierRepeated) ∷ []) ≡ None → (c ≡ true) × (d ≡ false)
identifier_tests a b c d e = grind arith

known_identifier : (id : List ℕ) → is_listed identifiers id ≡ true → (id ≡ GTIN_IDENTIFIER) ⊎ ((id ≡ LOT_IDENTIFIER) ⊎ (id ≡ EXPIRY_IDENTIFIER))
known_identifier id h =
    let same = λ (t : List ℕ) (e : same_text id t ≡ true). (bytes_eq-Decides id t).0 e in
    ⊎_elim (λ a. inl (same GTIN_IDENTIFIER a))
    (λ b. ⊎_elim (λ c. inr (inl (same LOT_IDENTIFIER c)))
    (λ d. ⊎_elim (λ f. inr (inr (same EXPIRY_IDENTIFIER f))) (λ x. absurd (false≢true x)) (or_cases _ _ d))
    (or_cases _ _ b))
    (or_cases _ _ h)

module _ (today : ℤ) (seen : List (List ℕ)) (s : List ℕ) where
  -- an element with this identifier is sound, and so is the rest of the text
  abbrev Sound : List ℕ → Type 0
  Sound id = (is_listed seen id ≡ false) × (data_fault today id s ≡ None) × (rest_fault today (id ∷ seen) (after_data id s) ≡ None)

  sound_gtin : is_listed seen GTIN_IDENTIFIER ≡ false → gtin_text_fault (take 14 s) ≡ None → rest_fault today (GTIN_IDENTIFIER ∷ seen) (drop 14 s) ≡ None
      → FirstElement today seen (GTIN_IDENTIFIER ++ s)
  sound_gtin new field rest = gtin (take 14 s) (drop 14 s) (ap (λ t. GTIN_IDENTIFIER ++ t) (sym (take-append-drop 14 s))) (is_gtin-from_none (take 14 s) field) new rest

  sound_expiry : is_listed seen EXPIRY_IDENTIFIER ≡ false → expiry_text_fault today (take 6 s) ≡ None → rest_fault today (EXPIRY_IDENTIFIER ∷ seen) (drop 6 s) ≡ None
      → FirstElement today seen (EXPIRY_IDENTIFIER ++ s)
  sound_expiry new field rest =
      let day = expiry_day-from_none today (take 6 s) field in
      expiry (take 6 s) (drop 6 s) day.0 (ap (λ t. EXPIRY_IDENTIFIER ++ t) (sym (take-append-drop 6 s))) day.1 new rest

  sound_lot : is_listed seen LOT_IDENTIFIER ≡ false → lot_fault s ≡ None → rest_fault today (LOT_IDENTIFIER ∷ seen) (after_separator s) ≡ None
      → FirstElement today seen (LOT_IDENTIFIER ++ s)
  sound_lot new field rest =
      let l = up_to_separator s in
      let faults = both_none (lot_text_fault l) (first_fault ((length s == length l + 1, SeparatorMisplaced) ∷ [])) field in
      let goes_on = none_first (length s == length l + 1) SeparatorMisplaced [] faults.1 in
      lot l (after_separator s) (ap (λ t. LOT_IDENTIFIER ++ t) (lot_and_rest s goes_on.0)) (is_lot_text-from_none l faults.0) new rest

  by_identifier : (id : List ℕ) → identifier_fault seen id ≡ None → data_fault today id s ≡ None → rest_fault today (id ∷ seen) (after_data id s) ≡ None
      → FirstElement today seen (id ++ s)
  by_identifier id begins field rest =
      let tests = identifier_tests (first_is SEPARATOR id) (length id == 1) (is_listed identifiers id) (is_listed seen id) begins in
      let sound : Sound id = (tests.1, field, rest) in
      let at = λ (k : List ℕ) (e : id ≡ k). subst Sound e sound in
      let back = λ (k : List ℕ) (e : id ≡ k). subst (λ i. FirstElement today seen (i ++ s)) (sym e) in
      ⊎_elim
      (λ e. let h = at GTIN_IDENTIFIER e in back GTIN_IDENTIFIER e (sound_gtin h.0 h.1 h.2))
      (λ other. ⊎_elim
      (λ e. let h = at LOT_IDENTIFIER e in back LOT_IDENTIFIER e (sound_lot h.0 h.1 h.2))
      (λ e. let h = at EXPIRY_IDENTIFIER e in back EXPIRY_IDENTIFIER e (sound_expiry h.0 h.1 h.2))
      other)
      (known_identifier id tests.0)

pub first_element : (today : ℤ) (seen : List (List ℕ)) (s : List ℕ) → rest_fault today seen s ≡ None → FirstElement today seen s
first_element today seen [] h = nothing refl (not-false _ (none_first (not (list_all (is_listed seen) identifiers)) IdentifierMissing [] h).0)
first_element today seen (c ∷ cs) h =
    let id = take 2 (c ∷ cs) in
    let field = drop 2 (c ∷ cs) in
    let begins = both_none (identifier_fault seen id) _ (sym (rest_fault-next today seen c cs) ∙ h) in
    let sound = both_none (data_fault today id field) (rest_fault today (id ∷ seen) (after_data id field)) begins.1 in
    subst (FirstElement today seen) (take-append-drop 2 (c ∷ cs)) (by_identifier today seen field id begins.0 sound.0 sound.1)
