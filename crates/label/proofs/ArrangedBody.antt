-- An arrangement of the three elements of a label has no fault, and says its parts.
use Rattle.label.proofs.Words.{◌≡◌, ℕ, zero, suc, ◌<◌, true, false, List, [], ◌∷◌, ◌++◌, Some, None, refl, sym, ap, ◌∙◌, subst, arith, append_assoc, IsTrue, ℤ, slice_index_or, list_all, append-nil, is_gtin, is_lot_text, first_is, expiry_day, SEPARATOR, GTIN_IDENTIFIER, LOT_IDENTIFIER, EXPIRY_IDENTIFIER, LabelParts, arrangements, is_listed, identifiers, rest_fault, rest_parts}
use Rattle.label.proofs.LotEnds.{ended}
use Rattle.label.proofs.Elements.{rest_fault-gtin, rest_fault-lot, rest_fault-expiry, rest_parts-gtin, rest_parts-lot, rest_parts-expiry}

abbrev no_parts : LabelParts
no_parts = record { gtin = []; lot = []; yymmdd = [] }

module _ (today : ℤ) where
  -- a text that has no fault and says these parts, the identifiers before it being seen
  pub record Reads (seen : List (List ℕ)) (s : List ℕ) (q : LabelParts) : Type 0 where
    pub sound : rest_fault today seen s ≡ None
    pub says : rest_parts s ≡ q

  reads_gtin : (seen : List (List ℕ)) (g r : List ℕ) (q : LabelParts) → IsTrue (is_gtin g) → is_listed seen GTIN_IDENTIFIER ≡ false
      → Reads (GTIN_IDENTIFIER ∷ seen) r q → Reads seen (GTIN_IDENTIFIER ++ (g ++ r)) (record q { gtin = g })
  reads_gtin seen g r q rule new h = record {
    sound = rest_fault-gtin today seen g r rule new ∙ h.sound;
    says = rest_parts-gtin g r rule ∙ ap {A = LabelParts} {B = LabelParts} (λ x. record x { gtin = g }) h.says;
  }

  reads_lot : (seen : List (List ℕ)) (l r : List ℕ) (q : LabelParts) → IsTrue (is_lot_text l) → is_listed seen LOT_IDENTIFIER ≡ false
      → Reads (LOT_IDENTIFIER ∷ seen) r q → Reads seen (LOT_IDENTIFIER ++ (l ++ ended r)) (record q { lot = l })
  reads_lot seen l r q rule new h = record {
    sound = rest_fault-lot today seen l r rule new ∙ h.sound;
    says = rest_parts-lot l r rule ∙ ap {A = LabelParts} {B = LabelParts} (λ x. record x { lot = l }) h.says;
  }

  reads_expiry : (seen : List (List ℕ)) (e r : List ℕ) (day : ℤ) (q : LabelParts) → expiry_day today e ≡ Some day → is_listed seen EXPIRY_IDENTIFIER ≡ false
      → Reads (EXPIRY_IDENTIFIER ∷ seen) r q → Reads seen (EXPIRY_IDENTIFIER ++ (e ++ r)) (record q { yymmdd = e })
  reads_expiry seen e r day q rule new h = record {
    sound = rest_fault-expiry today seen e r day rule new ∙ h.sound;
    says = rest_parts-expiry today e r day rule ∙ ap {A = LabelParts} {B = LabelParts} (λ x. record x { yymmdd = e }) h.says;
  }

  reads_nothing : (seen : List (List ℕ)) → list_all (is_listed seen) identifiers ≡ true → Reads seen [] no_parts
  reads_nothing seen h = record { sound = rw h refl; says = refl }

  module _ (g l e : List ℕ) (day : ℤ) (gtin_rule : IsTrue (is_gtin g)) (lot_rule : IsTrue (is_lot_text l)) (expiry_rule : expiry_day today e ≡ Some day) where
    abbrev pub p : LabelParts
    p = record { gtin = g; lot = l; yymmdd = e }

    -- the last element, and the last two, the identifiers before them being seen
    gtin_last : (seen : List (List ℕ)) → is_listed seen GTIN_IDENTIFIER ≡ false → list_all (is_listed (GTIN_IDENTIFIER ∷ seen)) identifiers ≡ true
        → Reads seen (GTIN_IDENTIFIER ++ g) (record no_parts { gtin = g })
    gtin_last seen new all = subst (λ t. Reads seen (GTIN_IDENTIFIER ++ t) (record no_parts { gtin = g })) (append-nil g) (reads_gtin seen g [] no_parts gtin_rule new (reads_nothing _ all))

    lot_last : (seen : List (List ℕ)) → is_listed seen LOT_IDENTIFIER ≡ false → list_all (is_listed (LOT_IDENTIFIER ∷ seen)) identifiers ≡ true
        → Reads seen (LOT_IDENTIFIER ++ l) (record no_parts { lot = l })
    lot_last seen new all = subst (λ t. Reads seen (LOT_IDENTIFIER ++ t) (record no_parts { lot = l })) (append-nil l) (reads_lot seen l [] no_parts lot_rule new (reads_nothing _ all))

    expiry_last : (seen : List (List ℕ)) → is_listed seen EXPIRY_IDENTIFIER ≡ false → list_all (is_listed (EXPIRY_IDENTIFIER ∷ seen)) identifiers ≡ true
        → Reads seen (EXPIRY_IDENTIFIER ++ e) (record no_parts { yymmdd = e })
    expiry_last seen new all = subst (λ t. Reads seen (EXPIRY_IDENTIFIER ++ t) (record no_parts { yymmdd = e })) (append-nil e) (reads_expiry seen e [] day no_parts expiry_rule new (reads_nothing _ all))

    gtin_expiry_lot : Reads [] ((GTIN_IDENTIFIER ++ g) ++ (EXPIRY_IDENTIFIER ++ e) ++ (LOT_IDENTIFIER ++ l)) p
    gtin_expiry_lot = rw append_assoc (reads_gtin _ g _ _ gtin_rule refl (reads_expiry _ e _ day _ expiry_rule refl (lot_last _ refl refl)))

    expiry_gtin_lot : Reads [] ((EXPIRY_IDENTIFIER ++ e) ++ (GTIN_IDENTIFIER ++ g) ++ (LOT_IDENTIFIER ++ l)) p
    expiry_gtin_lot = rw append_assoc (reads_expiry _ e _ day _ expiry_rule refl (reads_gtin _ g _ _ gtin_rule refl (lot_last _ refl refl)))

    gtin_lot_expiry : Reads [] ((GTIN_IDENTIFIER ++ g) ++ (LOT_IDENTIFIER ++ l) ++ SEPARATOR ∷ (EXPIRY_IDENTIFIER ++ e)) p
    gtin_lot_expiry = rw append_assoc (reads_gtin _ g _ _ gtin_rule refl (reads_lot _ l (EXPIRY_IDENTIFIER ++ e) _ lot_rule refl (expiry_last _ refl refl)))

    expiry_lot_gtin : Reads [] ((EXPIRY_IDENTIFIER ++ e) ++ (LOT_IDENTIFIER ++ l) ++ SEPARATOR ∷ (GTIN_IDENTIFIER ++ g)) p
    expiry_lot_gtin = rw append_assoc (reads_expiry _ e _ day _ expiry_rule refl (reads_lot _ l (GTIN_IDENTIFIER ++ g) _ lot_rule refl (gtin_last _ refl refl)))

    lot_gtin_expiry : Reads [] ((LOT_IDENTIFIER ++ l) ++ SEPARATOR ∷ (GTIN_IDENTIFIER ++ g) ++ (EXPIRY_IDENTIFIER ++ e)) p
    lot_gtin_expiry = rw append_assoc (reads_lot _ l (GTIN_IDENTIFIER ++ (g ++ (EXPIRY_IDENTIFIER ++ e))) _ lot_rule refl (reads_gtin _ g _ _ gtin_rule refl (expiry_last _ refl refl)))

    lot_expiry_gtin : Reads [] ((LOT_IDENTIFIER ++ l) ++ SEPARATOR ∷ (EXPIRY_IDENTIFIER ++ e) ++ (GTIN_IDENTIFIER ++ g)) p
    lot_expiry_gtin = rw append_assoc (reads_lot _ l (EXPIRY_IDENTIFIER ++ (e ++ (GTIN_IDENTIFIER ++ g))) _ lot_rule refl (reads_expiry _ e _ day _ expiry_rule refl (gtin_last _ refl refl)))

    pub reads_arrangement : (body : List ℕ) (k : ℕ) → k < 6 → slice_index_or (arrangements p) k body ≡ body → Reads [] body p
    reads_arrangement body zero lt is = subst (λ t. Reads [] t p) is gtin_expiry_lot
    reads_arrangement body (suc zero) lt is = subst (λ t. Reads [] t p) is expiry_gtin_lot
    reads_arrangement body (suc (suc zero)) lt is = subst (λ t. Reads [] t p) is gtin_lot_expiry
    reads_arrangement body (suc (suc (suc zero))) lt is = subst (λ t. Reads [] t p) is expiry_lot_gtin
    reads_arrangement body (suc (suc (suc (suc zero)))) lt is = subst (λ t. Reads [] t p) is lot_gtin_expiry
    reads_arrangement body (suc (suc (suc (suc (suc zero))))) lt is = subst (λ t. Reads [] t p) is lot_expiry_gtin
    reads_arrangement body (suc (suc (suc (suc (suc (suc k)))))) lt is = absurd (omega arith)

    -- no arrangement begins as a prefix does
    pub begins_otherwise : (body : List ℕ) (k : ℕ) → k < 6 → slice_index_or (arrangements p) k body ≡ body → first_is 93 body ≡ false
    begins_otherwise body zero lt is = ap (first_is 93) (sym is)
    begins_otherwise body (suc zero) lt is = ap (first_is 93) (sym is)
    begins_otherwise body (suc (suc zero)) lt is = ap (first_is 93) (sym is)
    begins_otherwise body (suc (suc (suc zero))) lt is = ap (first_is 93) (sym is)
    begins_otherwise body (suc (suc (suc (suc zero)))) lt is = ap (first_is 93) (sym is)
    begins_otherwise body (suc (suc (suc (suc (suc zero))))) lt is = ap (first_is 93) (sym is)
    begins_otherwise body (suc (suc (suc (suc (suc (suc k)))))) lt is = absurd (omega arith)
