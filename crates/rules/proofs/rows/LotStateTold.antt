-- What the slice of any command but a shipment tells of the state of a lot that it names, and of the kind of a bin that it names.
use Rattle.rules.proofs.Words.{◌≡◌, true, not, List, refl, ap, sym, ◌∙◌, ℕ, ℤ, Option, Some, None, option_map, LotId, NewBin, Act, is_lot, KnownLot, lots, lot_known, is_held, bin_named, is_store_row, is_store_bin, IsHistory, tables_of, IsSlice, ships, names_bin, names_lot, lot_seen, is_past_row, is_below_row, is_store_found, is_past, is_below, is_held_row, sees_hold, sees_store, Slice, is_lot_is, is_lot_turned, not_held}
use Rattle.rules.proofs.rows.Telling.{found_key}
use Rattle.rules.proofs.rows.SliceTells.{found_lot, found_bin}

module _ (first : ℤ) (acts : List Act) (act : Act) (s : Slice) (slice : IsSlice first act acts (tables_of first acts) s) (goods : not (ships act.command) ≡ true) where
  past_same : (k : Option KnownLot) (day : ℤ) → is_past_row (option_map (λ k. record { lot = k.lot; expiry = k.expiry; came = k.came; held = is_held acts k.lot }) k) day ≡ is_past k day
  past_same None day = refl
  past_same (Some k) day = refl

  pub past_told : (l : LotId) (day : ℤ) → names_lot act.command l ≡ true → is_past_row (lot_seen s l) day ≡ is_past (lot_known acts l) day
  past_told l day named = ap (λ k. is_past_row k day) (found_lot first acts act s slice goods l named) ∙ past_same (lot_known acts l) day

  below_same : (k : Option KnownLot) (day : ℤ) (days : ℕ) → is_below_row (option_map (λ k. record { lot = k.lot; expiry = k.expiry; came = k.came; held = is_held acts k.lot }) k) day days ≡ is_below k day days
  below_same None day days = refl
  below_same (Some k) day days = refl

  pub below_told : (l : LotId) (day : ℤ) (days : ℕ) → names_lot act.command l ≡ true → is_below_row (lot_seen s l) day days ≡ is_below (lot_known acts l) day days
  below_told l day days named = ap (λ k. is_below_row k day days) (found_lot first acts act s slice goods l named) ∙ below_same (lot_known acts l) day days

  -- a lot that is not known is not held
  held_same : IsHistory first acts → (l : LotId) (k : Option KnownLot) → lot_known acts l ≡ k
      → is_held_row (option_map (λ k. record { lot = k.lot; expiry = k.expiry; came = k.came; held = is_held acts k.lot }) k) ≡ is_held acts l
  held_same history l None e = sym (not_held first acts history l e)
  held_same history l (Some k) e = ap (is_held acts) (sym (found_key is_lot is_lot_is is_lot_turned (λ (k : KnownLot). k.lot) l (lots acts) k e))

  pub held_told : IsHistory first acts → (l : LotId) → names_lot act.command l ≡ true → sees_hold s l ≡ is_held acts l
  held_told history l named = ap is_held_row (found_lot first acts act s slice goods l named) ∙ held_same history l (lot_known acts l) refl

  store_same : (x : Option NewBin) → is_store_found (option_map (λ x. record { name = x.bin; kind = x.kind }) x) ≡ is_store_row x
  store_same None = refl
  store_same (Some x) = refl

  pub store_told : (b : List ℕ) → names_bin act.command b ≡ true → sees_store s b ≡ is_store_bin acts b
  store_told b t = ap is_store_found (found_bin first acts act s slice goods b t) ∙ store_same (bin_named acts b)
