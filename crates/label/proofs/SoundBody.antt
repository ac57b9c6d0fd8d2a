-- A text whose elements have no fault is an arrangement of the three elements of a label.
use Rattle.label.proofs.Words.{◌≡◌, ℕ, Bool, true, false, ◌&&◌, List, [], ◌∷◌, ◌++◌, Some, None, refl, sym, ap, ◌∙◌, arith, ⊎_elim, ◌⊎◌, inl, inr, append_assoc, IsTrue, ℤ, Contains, list_all, and_parts, both_ways, false≢true, append-nil, is_gtin, is_lot_text, expiry_day, SEPARATOR, GTIN_IDENTIFIER, LOT_IDENTIFIER, EXPIRY_IDENTIFIER, LabelParts, arrangements, is_listed, identifiers, rest_fault}
use Rattle.label.proofs.LotEnds.{ended}
use Rattle.label.proofs.FirstElement.{FirstElement, first_element}
use Rattle.label.proofs.FirstElement.FirstElement.{nothing, gtin, lot, expiry}

-- which identifiers are seen
record Seen (seen : List (List ℕ)) (g l e : Bool) : Type 0 where
  gtin_seen : is_listed seen GTIN_IDENTIFIER ≡ g
  lot_seen : is_listed seen LOT_IDENTIFIER ≡ l
  expiry_seen : is_listed seen EXPIRY_IDENTIFIER ≡ e

all_seen : (seen : List (List ℕ)) → list_all (is_listed seen) identifiers ≡ true → Seen seen true true true
all_seen seen h =
    let first = and_parts (is_listed seen GTIN_IDENTIFIER) _ h in
    let second = and_parts (is_listed seen LOT_IDENTIFIER) (is_listed seen EXPIRY_IDENTIFIER && true) first.1 in
    record { gtin_seen = first.0; lot_seen = second.0; expiry_seen = (and_parts (is_listed seen EXPIRY_IDENTIFIER) true second.1).0 }

module _ (today : ℤ) where
  GtinLeft : List ℕ → Type 0
  GtinLeft s = (g : List ℕ) × (s ≡ GTIN_IDENTIFIER ++ g) × IsTrue (is_gtin g)

  LotLeft : List ℕ → Type 0
  LotLeft s = (l : List ℕ) × (s ≡ LOT_IDENTIFIER ++ l) × IsTrue (is_lot_text l)

  ExpiryLeft : List ℕ → Type 0
  ExpiryLeft s = (e : List ℕ) × (day : ℤ) × (s ≡ EXPIRY_IDENTIFIER ++ e) × (expiry_day today e ≡ Some day)

  GtinAndLotLeft : List ℕ → Type 0
  GtinAndLotLeft s = (g : List ℕ) × (l : List ℕ) × IsTrue (is_gtin g) × IsTrue (is_lot_text l)
      × ((s ≡ (GTIN_IDENTIFIER ++ g) ++ (LOT_IDENTIFIER ++ l)) ⊎ (s ≡ (LOT_IDENTIFIER ++ l) ++ SEPARATOR ∷ (GTIN_IDENTIFIER ++ g)))

  GtinAndExpiryLeft : List ℕ → Type 0
  GtinAndExpiryLeft s = (g : List ℕ) × (e : List ℕ) × (day : ℤ) × IsTrue (is_gtin g) × (expiry_day today e ≡ Some day)
      × ((s ≡ (GTIN_IDENTIFIER ++ g) ++ (EXPIRY_IDENTIFIER ++ e)) ⊎ (s ≡ (EXPIRY_IDENTIFIER ++ e) ++ (GTIN_IDENTIFIER ++ g)))

  LotAndExpiryLeft : List ℕ → Type 0
  LotAndExpiryLeft s = (l : List ℕ) × (e : List ℕ) × (day : ℤ) × IsTrue (is_lot_text l) × (expiry_day today e ≡ Some day)
      × ((s ≡ (LOT_IDENTIFIER ++ l) ++ SEPARATOR ∷ (EXPIRY_IDENTIFIER ++ e)) ⊎ (s ≡ (EXPIRY_IDENTIFIER ++ e) ++ (LOT_IDENTIFIER ++ l)))

  none_left : (seen : List (List ℕ)) (s : List ℕ) → Seen seen true true true → rest_fault today seen s ≡ None → s ≡ []
  none_left seen s h sound = by (first_element today seen s sound)
    where
      by : FirstElement today seen s → s ≡ []
      by (nothing is all) = is
      by (gtin g r is rule new rest) = absurd (both_ways _ new h.gtin_seen)
      by (lot l r is rule new rest) = absurd (both_ways _ new h.lot_seen)
      by (expiry e r day is rule new rest) = absurd (both_ways _ new h.expiry_seen)

  gtin_left : (seen : List (List ℕ)) (s : List ℕ) → Seen seen false true true → rest_fault today seen s ≡ None → GtinLeft s
  unfolding GtinLeft
  gtin_left seen s h sound = by (first_element today seen s sound)
    where
      by : FirstElement today seen s → GtinLeft s
      by (nothing is all) = absurd (both_ways _ h.gtin_seen (all_seen seen all).gtin_seen)
      by (gtin g r is rule new rest) =
          let ends = none_left (GTIN_IDENTIFIER ∷ seen) r (record { gtin_seen = refl; lot_seen = h.lot_seen; expiry_seen = h.expiry_seen }) rest in
          (g, is ∙ ap (λ t. GTIN_IDENTIFIER ++ (g ++ t)) ends ∙ ap (λ t. GTIN_IDENTIFIER ++ t) (append-nil g), rule)
      by (lot l r is rule new rest) = absurd (both_ways _ new h.lot_seen)
      by (expiry e r day is rule new rest) = absurd (both_ways _ new h.expiry_seen)

  lot_left : (seen : List (List ℕ)) (s : List ℕ) → Seen seen true false true → rest_fault today seen s ≡ None → LotLeft s
  unfolding LotLeft
  lot_left seen s h sound = by (first_element today seen s sound)
    where
      by : FirstElement today seen s → LotLeft s
      by (nothing is all) = absurd (both_ways _ h.lot_seen (all_seen seen all).lot_seen)
      by (gtin g r is rule new rest) = absurd (both_ways _ new h.gtin_seen)
      by (lot l r is rule new rest) =
          let ends = none_left (LOT_IDENTIFIER ∷ seen) r (record { gtin_seen = h.gtin_seen; lot_seen = refl; expiry_seen = h.expiry_seen }) rest in
          (l, is ∙ ap (λ t. LOT_IDENTIFIER ++ (l ++ ended t)) ends ∙ ap (λ t. LOT_IDENTIFIER ++ t) (append-nil l), rule)
      by (expiry e r day is rule new rest) = absurd (both_ways _ new h.expiry_seen)

  expiry_left : (seen : List (List ℕ)) (s : List ℕ) → Seen seen true true false → rest_fault today seen s ≡ None → ExpiryLeft s
  unfolding ExpiryLeft
  expiry_left seen s h sound = by (first_element today seen s sound)
    where
      by : FirstElement today seen s → ExpiryLeft s
      by (nothing is all) = absurd (both_ways _ h.expiry_seen (all_seen seen all).expiry_seen)
      by (gtin g r is rule new rest) = absurd (both_ways _ new h.gtin_seen)
      by (lot l r is rule new rest) = absurd (both_ways _ new h.lot_seen)
      by (expiry e r day is rule new rest) =
          let ends = none_left (EXPIRY_IDENTIFIER ∷ seen) r (record { gtin_seen = h.gtin_seen; lot_seen = h.lot_seen; expiry_seen = refl }) rest in
          (e, day, is ∙ ap (λ t. EXPIRY_IDENTIFIER ++ (e ++ t)) ends ∙ ap (λ t. EXPIRY_IDENTIFIER ++ t) (append-nil e), rule)

  gtin_and_lot_left : (seen : List (List ℕ)) (s : List ℕ) → Seen seen false false true → rest_fault today seen s ≡ None → GtinAndLotLeft s
  unfolding GtinAndLotLeft GtinLeft LotLeft
  gtin_and_lot_left seen s h sound = by (first_element today seen s sound)
    where
      by : FirstElement today seen s → GtinAndLotLeft s
      by (nothing is all) = absurd (both_ways _ h.gtin_seen (all_seen seen all).gtin_seen)
      by (gtin g r is rule new rest) =
          let l = lot_left (GTIN_IDENTIFIER ∷ seen) r (record { gtin_seen = refl; lot_seen = h.lot_seen; expiry_seen = h.expiry_seen }) rest in
          (g, l.0, rule, l.2, inl (is ∙ ap (λ t. GTIN_IDENTIFIER ++ (g ++ t)) l.1))
      by (lot l r is rule new rest) =
          let g = gtin_left (LOT_IDENTIFIER ∷ seen) r (record { gtin_seen = h.gtin_seen; lot_seen = refl; expiry_seen = h.expiry_seen }) rest in
          (g.0, l, g.2, rule, inr (is ∙ ap (λ t. LOT_IDENTIFIER ++ (l ++ ended t)) g.1))
      by (expiry e r day is rule new rest) = absurd (both_ways _ new h.expiry_seen)

  gtin_and_expiry_left : (seen : List (List ℕ)) (s : List ℕ) → Seen seen false true false → rest_fault today seen s ≡ None → GtinAndExpiryLeft s
  unfolding GtinAndExpiryLeft GtinLeft ExpiryLeft
  gtin_and_expiry_left seen s h sound = by (first_element today seen s sound)
    where
      by : FirstElement today seen s → GtinAndExpiryLeft s
      by (nothing is all) = absurd (both_ways _ h.gtin_seen (all_seen seen all).gtin_seen)
      by (gtin g r is rule new rest) =
          let e = expiry_left (GTIN_IDENTIFIER ∷ seen) r (record { gtin_seen = refl; lot_seen = h.lot_seen; expiry_seen = h.expiry_seen }) rest in
          (g, e.0, e.1, rule, e.3, inl (is ∙ ap (λ t. GTIN_IDENTIFIER ++ (g ++ t)) e.2))
      by (lot l r is rule new rest) = absurd (both_ways _ new h.lot_seen)
      by (expiry e r day is rule new rest) =
          let g = gtin_left (EXPIRY_IDENTIFIER ∷ seen) r (record { gtin_seen = h.gtin_seen; lot_seen = h.lot_seen; expiry_seen = refl }) rest in
          (g.0, e, day, g.2, rule, inr (is ∙ ap (λ t. EXPIRY_IDENTIFIER ++ (e ++ t)) g.1))

  lot_and_expiry_left : (seen : List (List ℕ)) (s : List ℕ) → Seen seen true false false → rest_fault today seen s ≡ None → LotAndExpiryLeft s
  unfolding LotAndExpiryLeft LotLeft ExpiryLeft
  lot_and_expiry_left seen s h sound = by (first_element today seen s sound)
    where
      by : FirstElement today seen s → LotAndExpiryLeft s
      by (nothing is all) = absurd (both_ways _ h.lot_seen (all_seen seen all).lot_seen)
      by (gtin g r is rule new rest) = absurd (both_ways _ new h.gtin_seen)
      by (lot l r is rule new rest) =
          let e = expiry_left (LOT_IDENTIFIER ∷ seen) r (record { gtin_seen = h.gtin_seen; lot_seen = refl; expiry_seen = h.expiry_seen }) rest in
          (l, e.0, e.1, rule, e.3, inl (is ∙ ap (λ t. LOT_IDENTIFIER ++ (l ++ ended t)) e.2))
      by (expiry e r day is rule new rest) =
          let l = lot_left (EXPIRY_IDENTIFIER ∷ seen) r (record { gtin_seen = h.gtin_seen; lot_seen = h.lot_seen; expiry_seen = refl }) rest in
          (l.0, e, day, l.2, rule, inr (is ∙ ap (λ t. EXPIRY_IDENTIFIER ++ (e ++ t)) l.1))

  -- the elements of a label, without its prefix
  abbrev pub IsLabelBody : List ℕ → Type 0
  IsLabelBody s = (p : LabelParts) × (day : ℤ) × IsTrue (is_gtin p.gtin) × IsTrue (is_lot_text p.lot) × (expiry_day today p.yymmdd ≡ Some day) × Contains (arrangements p) s

  pub body_from_sound : (s : List ℕ) → rest_fault today [] s ≡ None → IsLabelBody s
  unfolding GtinAndLotLeft GtinAndExpiryLeft LotAndExpiryLeft
  body_from_sound s sound = by (first_element today [] s sound)
    where
      by : FirstElement today [] s → IsLabelBody s
      by (nothing is all) = absurd (false≢true all)
      by (gtin g r is rule new rest) =
          let x = lot_and_expiry_left (GTIN_IDENTIFIER ∷ []) r (record { gtin_seen = refl; lot_seen = refl; expiry_seen = refl }) rest in (
            record { gtin = g; lot = x.0; yymmdd = x.1 },
            x.2,
            rule,
            x.3,
            x.4,
            ⊎_elim (λ e. (2, omega arith, append_assoc (GTIN_IDENTIFIER ++ g) (LOT_IDENTIFIER ++ x.0) (SEPARATOR ∷ (EXPIRY_IDENTIFIER ++ x.1)) ∙ sym (is ∙ ap (λ t. GTIN_IDENTIFIER ++ (g ++ t)) e)))
                (λ e. (0, omega arith, append_assoc (GTIN_IDENTIFIER ++ g) (EXPIRY_IDENTIFIER ++ x.1) (LOT_IDENTIFIER ++ x.0) ∙ sym (is ∙ ap (λ t. GTIN_IDENTIFIER ++ (g ++ t)) e)))
                x.5,
          )
      by (lot l r is rule new rest) =
          let x = gtin_and_expiry_left (LOT_IDENTIFIER ∷ []) r (record { gtin_seen = refl; lot_seen = refl; expiry_seen = refl }) rest in (
            record { gtin = x.0; lot = l; yymmdd = x.1 },
            x.2,
            x.3,
            rule,
            x.4,
            ⊎_elim (λ e. (4, omega arith, append_assoc (LOT_IDENTIFIER ++ l) (SEPARATOR ∷ (GTIN_IDENTIFIER ++ x.0)) (EXPIRY_IDENTIFIER ++ x.1) ∙ sym (is ∙ ap (λ t. LOT_IDENTIFIER ++ (l ++ ended t)) e)))
                (λ e. (5, omega arith, append_assoc (LOT_IDENTIFIER ++ l) (SEPARATOR ∷ (EXPIRY_IDENTIFIER ++ x.1)) (GTIN_IDENTIFIER ++ x.0) ∙ sym (is ∙ ap (λ t. LOT_IDENTIFIER ++ (l ++ ended t)) e)))
                x.5,
          )
      by (expiry e r day is rule new rest) =
          let x = gtin_and_lot_left (EXPIRY_IDENTIFIER ∷ []) r (record { gtin_seen = refl; lot_seen = refl; expiry_seen = refl }) rest in (
            record { gtin = x.0; lot = x.1; yymmdd = e },
            day,
            x.2,
            x.3,
            rule,
            ⊎_elim (λ f. (1, omega arith, append_assoc (EXPIRY_IDENTIFIER ++ e) (GTIN_IDENTIFIER ++ x.0) (LOT_IDENTIFIER ++ x.1) ∙ sym (is ∙ ap (λ t. EXPIRY_IDENTIFIER ++ (e ++ t)) f)))
                (λ f. (3, omega arith, append_assoc (EXPIRY_IDENTIFIER ++ e) (LOT_IDENTIFIER ++ x.1) (SEPARATOR ∷ (GTIN_IDENTIFIER ++ x.0)) ∙ sym (is ∙ ap (λ t. EXPIRY_IDENTIFIER ++ (e ++ t)) f)))
                x.4,
          )
