-- The rows of a slice tell the supplies of each item that the command touches, if it plans.
use Rattle.rules.proofs.Words.{◌≡◌, ℕ, Bool, true, ◌&&◌, not, List, refl, ap, sym, ◌∙◌, ◌||◌, ℤ, find, list_any, same_text, LotId, Command, LotRow, RecallRow, StockRow, BinRow, Act, is_lot, of_item, tables_of, lot_row, recall_row, stock_row, bin_row, is_touched, AreRows, LotBin, same_cell, IsSlice, ships, plans, names_bin, names_lot, in_bins, on_stages, on_named_stage, Rows, Slice, and_both, or_first, or_later, same_text_is}
use Rattle.rules.proofs.rows.AfterRows.{loosened}
use Rattle.rules.proofs.rows.Planned.{no_shipment, asked_if_planned, or_grouped}
use Rattle.rules.proofs.rows.SuppliesTold.{TellsSupplies, in_stock}

-- the lots of an item that the command names, and those of which rows have units in bins or on stages
abbrev pub is_wanted : Command → Rows → List ℕ → LotId → Bool
is_wanted command rows g l = of_item g l && (names_lot command l || in_bins rows l || on_stages rows l)

-- The lots, recalls, stock and bins of a slice tell the supplies of each item that the command touches
module _ (first : ℤ) (acts : List Act) (act : Act) (s : Slice) (slice : IsSlice first act acts (tables_of first acts) s) (planned : plans act.command ≡ true) (g : List ℕ) (touched : is_touched first act acts g ≡ true) where
  touched_lot : (l : LotId) → of_item g l ≡ true → is_touched first act acts l.gtin ≡ true
  touched_lot l e = ap (λ (x : List ℕ). is_touched first act acts x) (sym (same_text_is g l.gtin e)) ∙ touched

  lots_are : AreRows is_lot (λ (r : LotRow). r.lot) (λ l. not (ships act.command) && is_touched first act acts l.gtin && (names_lot act.command l || (plans act.command && (in_bins s.rows l || on_stages s.rows l)))) (λ l. is_touched first act acts l.gtin) (lot_row acts) s.rows.lots
  unfolding tables_of
  lots_are = slice.lots

  -- the lots of the item that are wanted
  pub slice_lots : AreRows is_lot (λ (r : LotRow). r.lot) (is_wanted act.command s.rows g) (λ l. true) (lot_row acts) s.rows.lots
  slice_lots =
      loosened is_lot (λ (r : LotRow). r.lot) _ (is_wanted act.command s.rows g) _ (λ l. true) (lot_row acts) (lot_row acts) s.rows.lots
      (λ l e. let two = and_both (of_item g l) (names_lot act.command l || in_bins s.rows l || on_stages s.rows l) e in
      let asked = asked_if_planned act.command planned (names_lot act.command l) (in_bins s.rows l || on_stages s.rows l) (or_grouped (names_lot act.command l) (in_bins s.rows l) (on_stages s.rows l) two.1) in
      (λ i. no_shipment act.command planned i && touched_lot l two.0 i && asked i)) (λ l e. refl) (λ l. refl) lots_are

  -- those that have one of these stock rows, if the command names them or the slice has stock rows of them
  pub lots_with_stock : (rows : List StockRow) → ((l : LotId) → list_any (λ (r : StockRow). is_lot l r.lot) rows ≡ true → names_lot act.command l || in_bins s.rows l ≡ true)
      → AreRows is_lot (λ (r : LotRow). r.lot) (in_stock g rows) (λ l. true) (lot_row acts) s.rows.lots
  lots_with_stock rows few =
      loosened is_lot (λ (r : LotRow). r.lot) (is_wanted act.command s.rows g) (in_stock g rows) (λ l. true) (λ l. true) (lot_row acts) (lot_row acts) s.rows.lots
      (λ l e. let two = and_both (of_item g l) (list_any (λ (r : StockRow). is_lot l r.lot) rows) e in (λ i. two.0 i && or_first (names_lot act.command l || in_bins s.rows l) (on_stages s.rows l) (few l two.1) i)) (λ l e. refl) (λ l. refl) slice_lots

  stock_are : AreRows same_cell (λ (r : StockRow). (r.lot, r.bin)) (λ (k : LotBin). is_touched first act acts k.0.gtin && (plans act.command || (names_lot act.command k.0 && names_bin act.command k.1) || (ships act.command && on_named_stage act.command s.rows k.0))) (λ (k : LotBin). is_touched first act acts k.0.gtin) (λ k. stock_row first acts k.0 k.1) s.rows.stock
  unfolding tables_of
  stock_are = slice.stock

  recalls_are : (l : LotId) → of_item g l ≡ true → find (λ (r : RecallRow). is_lot l r.lot) s.rows.recalls ≡ recall_row acts l
  unfolding tables_of
  recalls_are l e = slice.recalls.found l (λ i. or_first (plans act.command) (names_lot act.command l) planned i && touched_lot l e i)

  bins_are : (b : List ℕ) → list_any (λ (r : StockRow). same_text b r.bin) s.rows.stock ≡ true → find (λ (r : BinRow). same_text b r.name) s.rows.bins ≡ bin_row acts b
  unfolding tables_of
  bins_are b e = slice.bins.found b (asked_if_planned act.command planned (names_bin act.command b) _ (or_later (names_bin act.command b) _ e))

  pub slice_tells_supplies : TellsSupplies first acts g s.rows
  slice_tells_supplies = record {
    lots = lots_with_stock s.rows.stock (λ l e. or_later (names_lot act.command l) (in_bins s.rows l) e);
    recalls = recalls_are;
    stock = loosened same_cell (λ (r : StockRow). (r.lot, r.bin)) _ (λ k. of_item g k.0) _ (λ k. true) (λ k. stock_row first acts k.0 k.1) (λ k. stock_row first acts k.0 k.1) s.rows.stock
        (λ k e i. touched_lot k.0 e i && or_first (plans act.command || (names_lot act.command k.0 && names_bin act.command k.1)) (ships act.command && on_named_stage act.command s.rows k.0) (or_first (plans act.command) (names_lot act.command k.0 && names_bin act.command k.1) planned) i) (λ k e. refl) (λ k. refl) stock_are;
    bins = bins_are;
  }
