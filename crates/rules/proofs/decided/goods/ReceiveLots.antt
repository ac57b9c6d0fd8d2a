-- The row of the lot that is received, which a receipt puts if the lot is new.
use Rattle.rules.proofs.Words.{◌≡◌, Bool, true, false, ◌&&◌, List, [], ◌∷◌, ◌++◌, refl, ap, sym, subst, ◌∙◌, ◌||◌, if◌then◌else◌, ℤ, Option, Some, None, find, is_some, option_map, LotId, Key, Receipt, Receive, LotRow, Act, next_number, is_lot, KnownLot, lots, lot_known, is_held, IsHistory, tables_of, lot_row, AreRows, no_two, IsSlice, changed, unless_put, in_bins, on_stages, lot_seen, lots_if_new, new_lot_row, lots_put, lot_rows_after, Slice, or_first, same_text_refl, is_lot_is, is_lot_refl, is_lot_turned, room_for_acts, not_held}
use Rattle.rules.proofs.rows.AfterRows.{loosened, rows_added, put_one}
use Rattle.rules.proofs.rows.SliceSupplies.{slice_lots, is_wanted}
use Rattle.rules.proofs.rows.SliceTells.{found_lot}
use Rattle.rules.proofs.rows.PostedRows.{PutsLots}
use Rattle.rules.proofs.decided.Decisions.{number_same}

put_once : (x : Option LotRow) (row : LotRow) → no_two (λ (a b : LotRow). is_lot a.lot b.lot) (lots_if_new x row) ≡ true
put_once None row = refl
put_once (Some k) row = refl

module _ (first : ℤ) (acts : List Act) (key : Key) (r : Receipt) (s : Slice) (slice : IsSlice first (record { key = key; command = Receive r }) acts (tables_of first acts) s)
    (next : IsHistory first (record { key = key; command = Receive r } ∷ acts)) where
  abbrev act : Act
  act = record { key = key; command = Receive r }

  abbrev after : List Act
  after = act ∷ acts

  abbrev known_row : KnownLot → LotRow
  known_row k = record { lot = k.lot; expiry = k.expiry; came = k.came; held = is_held acts k.lot }

  abbrev first_receipt : KnownLot
  first_receipt = record { lot = r.lot; expiry = r.expiry; came = next_number acts }

  abbrev new_lots : Option KnownLot → List LotRow
  new_lots x = if is_some x then [] else known_row first_receipt ∷ []

  -- the lot row put is that of the act
  lots_same : lots_put s r ≡ new_lots (lot_known acts r.lot)
  lots_same = ap (λ k. lots_if_new k (new_lot_row s r)) (found_lot first acts act s slice refl r.lot (is_lot_refl r.lot)) ∙ by_known (lot_known acts r.lot) refl
    where
      by_known : (x : Option KnownLot) → lot_known acts r.lot ≡ x → lots_if_new (option_map known_row x) (new_lot_row s r) ≡ new_lots x
      by_known None e =
          (λ i. record { lot = r.lot; expiry = r.expiry; came = number_same first acts act s slice (room_for_acts first acts (Receive r) next.1.passes) i; held = sym (not_held first acts next.0 r.lot e) i } ∷ [])
      by_known (Some k) e = refl

  lot_put : (b : Bool) (rest : Option KnownLot) → unless_put (if b then Some (known_row first_receipt) else None) false (option_map known_row rest) ≡ option_map known_row (if b then Some first_receipt else rest)
  lot_put true rest = refl
  lot_put false rest = refl

  lot_at : (l : LotId) → changed (λ (q : LotRow). is_lot l q.lot) (new_lots (lot_known acts r.lot)) [] (lot_row acts l) ≡ lot_row after l
  lot_at l = elim (is_some (lot_known acts r.lot)) as (λ b. changed (λ (q : LotRow). is_lot l q.lot) (if b then [] else known_row first_receipt ∷ []) [] (lot_row acts l) ≡ option_map known_row (find (λ k. is_lot l k.lot) (if b then lots acts else first_receipt ∷ lots acts))) [
    | true ↦ refl
    | false ↦ lot_put (is_lot l r.lot) (lot_known acts l)
  ]

  pub puts_lots : PutsLots acts act (lots_put s r)
  puts_lots = record {
    lots = λ l. ap (λ (xs : List LotRow). changed (λ (q : LotRow). is_lot l q.lot) xs [] (lot_row acts l)) lots_same ∙ lot_at l;
    once = put_once (lot_seen s r.lot) (new_lot_row s r);
  }

  -- The lot rows after it

  abbrev wanted : LotId → Bool
  wanted = is_wanted (Receive r) s.rows r.lot.gtin

  lots_are : AreRows is_lot (λ (k : LotRow). k.lot) wanted (λ l. true) (lot_row acts) s.rows.lots
  lots_are = slice_lots first acts act s slice refl r.lot.gtin (same_text_refl r.lot.gtin)

  own : wanted r.lot ≡ true
  own = λ i. same_text_refl r.lot.gtin i && or_first (is_lot r.lot r.lot || in_bins s.rows r.lot) (on_stages s.rows r.lot) (or_first (is_lot r.lot r.lot) (in_bins s.rows r.lot) (is_lot_refl r.lot)) i

  by_known : (x : Option KnownLot) → lot_known acts r.lot ≡ x → AreRows is_lot (λ (k : LotRow). k.lot) wanted (λ l. true) (lot_row after) (new_lots x ++ s.rows.lots)
  by_known (Some k) e =
      loosened is_lot (λ (k : LotRow). k.lot) wanted wanted (λ l. true) (λ l. true) (lot_row acts) (lot_row after) s.rows.lots (λ l h. h) (λ l h. h)
      (λ l. ap (λ (y : Option KnownLot). changed (λ (q : LotRow). is_lot l q.lot) (new_lots y) [] (lot_row acts l)) (sym e) ∙ lot_at l) lots_are
  by_known None e =
      let new = known_row first_receipt in
      loosened is_lot (λ (k : LotRow). k.lot) wanted wanted (λ l. true) (λ l. true) (λ l. if is_lot l r.lot then Some new else lot_row acts l) (lot_row after) (new ∷ s.rows.lots) (λ l h. h) (λ l h. h)
      (λ l. put_one (is_lot l r.lot) new (lot_row acts l) ∙ ap (λ (y : Option KnownLot). changed (λ (q : LotRow). is_lot l q.lot) (new_lots y) [] (lot_row acts l)) (sym e) ∙ lot_at l)
      (rows_added is_lot is_lot_is is_lot_refl is_lot_turned (λ (k : LotRow). k.lot) wanted (lot_row acts) new s.rows.lots (lots_are.found r.lot own ∙ ap (option_map known_row) e) lots_are)

  pub lots_after : AreRows is_lot (λ (k : LotRow). k.lot) wanted (λ l. true) (lot_row after) (lot_rows_after s r)
  lots_after = subst (λ (xs : List LotRow). AreRows is_lot (λ (k : LotRow). k.lot) wanted (λ l. true) (lot_row after) (xs ++ s.rows.lots)) (sym lots_same) (by_known (lot_known acts r.lot) refl)
