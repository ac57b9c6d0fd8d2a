-- The stock rows and staged rows of a lot tell its units in the house.
use Rattle.rules.proofs.Words.{◌≡◌, ℕ, ◌≤◌, Bool, true, false, ◌&&◌, List, refl, ap, sym, ◌∙◌, arith, ℤ, same_text, LotId, UNITS_MAX, StockRow, StagedRow, Act, Place, Supplier, InBin, Stage, Shipped, WriteOff, Posting, in_house, is_bin, is_lot, of_item, postings, in_bin, lot_units_in_house, IsHistory, stock_row, staged_row, AreRows, LotBin, OrderLot, same_cell, same_share, lot_units, and_both, is_lot_is, and_not_itself, Cells, without, holds, holds_split, legal_history, units_within_limit, bin_cells, stage_cells, stock_holds, staged_holds}

of_same_item : (g : List ℕ) (l m : LotId) → of_item g l ≡ true → is_lot l m ≡ true → of_item g m ≡ true
of_same_item g l m e f = ap (λ (x : LotId). of_item g x) (sym (is_lot_is l m f)) ∙ e

module _ (first : ℤ) (acts : List Act) (history : IsHistory first acts) (g : List ℕ) (l : LotId) (own : of_item g l ≡ true) where
  abbrev ps : List Posting
  ps = postings first acts

  abbrev house : Cells
  house p m = in_house p && is_lot l m

  in_item : (p : Place) (m : LotId) → in_house p && is_lot l m ≡ true → in_house p && of_item g m ≡ true
  in_item p m e = let two = and_both (in_house p) (is_lot l m) e in (λ i. two.0 i && of_same_item g l m own two.1 i)

  -- a lot has no more units in the house than the limit of its item
  pub lot_within_limit : lot_units_in_house first acts l ≤ UNITS_MAX
  lot_within_limit =
      let split = holds_split ps (legal_history first acts history) house (λ p m. in_house p && of_item g m) (record { supplier = λ m. refl; write_off = λ m. refl }) (record { supplier = λ m. refl; write_off = λ m. refl }) in_item in
      omega (arith, split, units_within_limit first acts history g)

  in_bin_house : (b : List ℕ) (p : Place) (m : LotId) → is_bin b p && is_lot l m ≡ true → in_house p && is_lot l m ≡ true
  in_bin_house b (InBin c) m e = (and_both (same_text b c) (is_lot l m) e).1
  in_bin_house b Supplier m e = e
  in_bin_house b WriteOff m e = e
  in_bin_house b (Stage o) m e = let f : false ≡ true = e in cc
  in_bin_house b (Shipped n o) m e = e

  pub bin_within_limit : (b : List ℕ) → in_bin first acts b l ≤ UNITS_MAX
  bin_within_limit b =
      let split = holds_split ps (legal_history first acts history) (λ p m. is_bin b p && is_lot l m) house (record { supplier = λ m. refl; write_off = λ m. refl }) (record { supplier = λ m. refl; write_off = λ m. refl }) (in_bin_house b) in
      omega (arith, split, lot_within_limit)

  bins_inside : (p : Place) (m : LotId) → bin_cells (λ m b. is_lot l m) p m ≡ true → in_house p && is_lot l m ≡ true
  bins_inside (InBin b) m e = e
  bins_inside (Stage o) m e = let f : false ≡ true = e in cc
  bins_inside Supplier m e = e
  bins_inside WriteOff m e = e
  bins_inside (Shipped n o) m e = e

  kept : (a : Bool) → a && true ≡ a
  kept true = refl
  kept false = refl

  stages_left : (p : Place) (m : LotId) → without house (bin_cells (λ m b. is_lot l m)) p m ≡ stage_cells (λ m o. is_lot l m) p m
  stages_left (InBin b) m = and_not_itself (is_lot l m)
  stages_left (Stage o) m = kept (is_lot l m)
  stages_left Supplier m = refl
  stages_left WriteOff m = refl
  stages_left (Shipped n o) m = refl

  module _ (stock_rows : List StockRow) (staged_rows : List StagedRow) (needed_stock allowed_stock : LotBin → Bool) (needed_staged allowed_staged : OrderLot → Bool)
      (stock_are : AreRows same_cell (λ (r : StockRow). (r.lot, r.bin)) needed_stock allowed_stock (λ k. stock_row first acts k.0 k.1) stock_rows)
      (staged_are : AreRows same_share (λ (r : StagedRow). (r.order, r.lot)) needed_staged allowed_staged (λ k. staged_row first acts k.0 k.1) staged_rows)
      (stock_needed : (m : LotId) (b : List ℕ) → is_lot l m ≡ true → needed_stock (m, b) ≡ true)
      (staged_needed : (m : LotId) (o : List ℕ) → is_lot l m ≡ true → needed_staged (o, m) ≡ true) where
    pub lot_units_told : lot_units l stock_rows staged_rows ≡ lot_units_in_house first acts l
    lot_units_told =
        let legal = legal_history first acts history in
        let split = holds_split ps legal (bin_cells (λ m b. is_lot l m)) house (record { supplier = λ m. refl; write_off = λ m. refl }) (record { supplier = λ m. refl; write_off = λ m. refl }) bins_inside in
        let in_bins = stock_holds first acts legal (λ m b. is_lot l m) needed_stock allowed_stock stock_rows stock_are stock_needed in
        let on_stages = (λ j. holds (λ p m. stages_left p m j) ps) ∙ staged_holds first acts legal (λ m o. is_lot l m) needed_staged allowed_staged staged_rows staged_are staged_needed in
        omega (arith, split, in_bins, on_stages, lot_within_limit)
