-- The lot rows after an act that says of one lot that it is held, or that it is not.
use Rattle.rules.proofs.Words.{◌≡◌, Bool, true, false, List, [], refl, ap, sym, ◌∙◌, if◌then◌else◌, Option, Some, None, option_map, LotId, LotRow, Act, is_lot, KnownLot, lots, lot_known, lot_among, is_held, lot_row, no_two, changed, unless_put, with_hold, lot_put, is_lot_is, is_lot_turned, found_lot as found_known}

-- the row under a lot is the lot's
row_of_lot : (acts : List Act) (l : LotId) (row : LotRow) → lot_row acts l ≡ Some row → l ≡ row.lot
row_of_lot acts l row = by_known (lot_known acts l) refl
  where
    by_known : (x : Option KnownLot) → lot_known acts l ≡ x → option_map (λ (k : KnownLot). record { lot = k.lot; expiry = k.expiry; came = k.came; held = is_held acts k.lot }) x ≡ Some row → l ≡ row.lot
    by_known None e f = cc
    by_known (Some k) e f =
        let own : record { lot = k.lot; expiry = k.expiry; came = k.came; held = is_held acts k.lot } ≡ row = cc in
        found_known l (lots acts) k e ∙ ap (λ (x : LotRow). x.lot) own

-- one row at most is put
pub lot_put_once : (l : LotId) (held : Bool) (x : Option LotRow) → no_two (λ (a b : LotRow). is_lot a.lot b.lot) (lot_put l held x) ≡ true
lot_put_once l held None = refl
lot_put_once l held (Some k) = refl

module _ (acts after : List Act) (l : LotId) (held : Bool) (lots_same : lots after ≡ lots acts) (held_is : (m : LotId) → is_held after m ≡ (if is_lot m l then held else is_held acts m)) where
  abbrev shown : KnownLot → LotRow
  shown k = record { lot = k.lot; expiry = k.expiry; came = k.came; held = is_held acts k.lot }

  -- each row is as before, but for whether this lot is held
  pub held_after : (m : LotId) → lot_row after m ≡ option_map (with_hold l held) (lot_row acts m)
  held_after m =
      (λ i. option_map (λ (k : KnownLot). record { lot = k.lot; expiry = k.expiry; came = k.came; held = held_is k.lot i }) (lot_among m (lots_same i)))
      ∙ (λ i. option_map (λ (k : KnownLot). record { lot = k.lot; expiry = k.expiry; came = k.came; held = if is_lot_turned k.lot l i then held else is_held acts k.lot }) (lot_known acts m))
      ∙ twice (lot_known acts m)
    where
      twice : (x : Option KnownLot) → option_map (λ (k : KnownLot). with_hold l held (shown k)) x ≡ option_map (with_hold l held) (option_map shown x)
      twice None = refl
      twice (Some k) = refl

  others_kept : (m : LotId) → is_lot m l ≡ false → (y : Option LotRow) → lot_row acts m ≡ y → y ≡ option_map (with_hold l held) y
  others_kept m e None f = refl
  others_kept m e (Some r) f =
      let other : is_lot l r.lot ≡ false = ap (is_lot l) (sym (row_of_lot acts m r f)) ∙ is_lot_turned l m ∙ e in
      λ i. Some (record { lot = r.lot; expiry = r.expiry; came = r.came; held = if sym other i then held else r.held })

  -- the row put is the row after
  pub held_at : (x : Option LotRow) → lot_row acts l ≡ x → (m : LotId) → changed (λ (q : LotRow). is_lot m q.lot) (lot_put l held x) [] (lot_row acts m) ≡ lot_row after m
  held_at x e m =
      elim (is_lot m l) as (λ b. is_lot m l ≡ b → changed (λ (q : LotRow). is_lot m q.lot) (lot_put l held x) [] (lot_row acts m) ≡ option_map (with_hold l held) (lot_row acts m)) [
        | true ↦ λ t. own x e t (ap (λ (y : LotId). lot_row acts y) (is_lot_is m l t) ∙ e)
        | false ↦ λ t. other x e t
      ] refl
      ∙ sym (held_after m)
    where
      own : (x : Option LotRow) → lot_row acts l ≡ x → is_lot m l ≡ true → lot_row acts m ≡ x → changed (λ (q : LotRow). is_lot m q.lot) (lot_put l held x) [] (lot_row acts m) ≡ option_map (with_hold l held) (lot_row acts m)
      own None f t g = g ∙ sym (ap (option_map (with_hold l held)) g)
      own (Some r) f t g =
          (λ i. unless_put (if (ap (is_lot m) (sym (row_of_lot acts l r f)) ∙ t) i then Some (with_hold l held r) else None) false (lot_row acts m)) ∙ sym (ap (option_map (with_hold l held)) g)

      other : (x : Option LotRow) → lot_row acts l ≡ x → is_lot m l ≡ false → changed (λ (q : LotRow). is_lot m q.lot) (lot_put l held x) [] (lot_row acts m) ≡ option_map (with_hold l held) (lot_row acts m)
      other None f t = others_kept m t (lot_row acts m) refl
      other (Some r) f t =
          (λ i. unless_put (if (ap (is_lot m) (sym (row_of_lot acts l r f)) ∙ t) i then Some (with_hold l held r) else None) false (lot_row acts m)) ∙ others_kept m t (lot_row acts m) refl
