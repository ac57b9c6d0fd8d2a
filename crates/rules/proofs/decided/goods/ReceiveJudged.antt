-- A receipt judged by its slice is judged as by the acts.
use Rattle.rules.proofs.Words.{◌≡◌, ℕ, ◌+◌, ◌≤◌, ◌<◌, Bool, true, false, ◌&&◌, not, List, [], ◌∷◌, refl, ap, sym, ◌∙◌, arith, ◌||◌, nat_lt, ℤ, ltb-false, ltb-true, lt-ltb, le-ltb, same_text, LotId, UNITS_MAX, Key, Receipt, Receive, UnknownItem, UnknownBin, OtherExpiry, LotRecalled, LotExpired, OverUnits, Act, Place, Supplier, InBin, Stage, Shipped, WriteOff, in_house, of_item, is_expired, postings, units_in_house, IsHistory, tables_of, stock_row, staged_row, is_touched, AreRows, LotBin, OrderLot, same_cell, same_share, IsSlice, ships, plans, names_bin, names_lot, on_named_stage, capped, is_over, stock_units, staged_units, receive_seen, first_refusal, judgement, Slice, or_first, same_text_is, same_text_refl, is_lot_refl, and_not_itself, without, holds, holds_split, legal_history, bin_cells, stage_cells, stock_holds, staged_holds}
use Rattle.rules.proofs.decided.Decisions.{day_seen}
use Rattle.rules.proofs.rows.Planned.{no_pick}
use Rattle.rules.proofs.rows.SliceDemands.{staged_touched}
use Rattle.rules.proofs.rows.SliceTells.{item_told, bin_told, expiry_told, recall_told}

module _ (first : ℤ) (acts : List Act) (act : Act) (s : Slice) (slice : IsSlice first act acts (tables_of first acts) s) (planned : plans act.command ≡ true) (history : IsHistory first acts) (g : List ℕ) (touched : is_touched first act acts g ≡ true) where
  touched_item : (l : LotId) → of_item g l ≡ true → is_touched first act acts l.gtin ≡ true
  touched_item l e = ap (λ (x : List ℕ). is_touched first act acts x) (sym (same_text_is g l.gtin e)) ∙ touched

  kept : (a : Bool) → a && true ≡ a
  kept true = refl
  kept false = refl

  stages_left : (p : Place) (l : LotId) → without (λ p l. in_house p && of_item g l) (bin_cells (λ l b. of_item g l)) p l ≡ stage_cells (λ l o. of_item g l) p l
  stages_left (InBin b) l = and_not_itself (of_item g l)
  stages_left (Stage o) l = kept (of_item g l)
  stages_left Supplier l = refl
  stages_left WriteOff l = refl
  stages_left (Shipped n o) l = refl

  bins_inside : (p : Place) (l : LotId) → bin_cells (λ l b. of_item g l) p l ≡ true → in_house p && of_item g l ≡ true
  bins_inside (InBin b) l e = e
  bins_inside (Stage o) l e = let f : false ≡ true = e in cc
  bins_inside Supplier l e = e
  bins_inside WriteOff l e = e
  bins_inside (Shipped n o) l e = e

  stock_are : AreRows same_cell (λ r. (r.lot, r.bin)) (λ (k : LotBin). is_touched first act acts k.0.gtin && (plans act.command || (names_lot act.command k.0 && names_bin act.command k.1) || (ships act.command && on_named_stage act.command s.rows k.0))) (λ (k : LotBin). is_touched first act acts k.0.gtin) (λ k. stock_row first acts k.0 k.1) s.rows.stock
  unfolding tables_of
  stock_are = slice.stock

  staged_are : AreRows same_share (λ r. (r.order, r.lot)) (λ (k : OrderLot). is_touched first act acts k.1.gtin) (λ (k : OrderLot). true) (λ k. staged_row first acts k.0 k.1) s.rows.staged
  staged_are = staged_touched first acts act s slice (no_pick act.command planned)

  -- an item's units in the house are those of its stock rows and its staged rows
  pub units_are : units_in_house first acts g ≡ stock_units g s.rows.stock + staged_units g s.rows.staged
  units_are =
      let legal = legal_history first acts history in
      holds_split (postings first acts) legal (bin_cells (λ l b. of_item g l)) (λ p l. in_house p && of_item g l) (record { supplier = λ m. refl; write_off = λ m. refl }) (record { supplier = λ m. refl; write_off = λ m. refl }) bins_inside
      ∙ (λ i. stock_holds first acts legal (λ l b. of_item g l) _ _ s.rows.stock stock_are (λ l b e j. touched_item l e j && or_first (plans act.command || (names_lot act.command l && names_bin act.command b)) (ships act.command && on_named_stage act.command s.rows l) (or_first (plans act.command) (names_lot act.command l && names_bin act.command b) planned) j) i
      + ((λ j. holds (λ p l. stages_left p l j) (postings first acts)) ∙ staged_holds first acts legal (λ l o. of_item g l) _ _ s.rows.staged staged_are (λ l o e. touched_item l e)) i)

  more_than : (a b m n : ℕ) → n ≡ a + b → nat_lt UNITS_MAX (capped (capped (capped a + capped b) + m)) ≡ nat_lt (UNITS_MAX + 0) (n + m)
  more_than a b m n e =
      elim (nat_lt (UNITS_MAX + 0) (n + m)) as (λ t. nat_lt (UNITS_MAX + 0) (n + m) ≡ t → nat_lt UNITS_MAX (capped (capped (capped a + capped b) + m)) ≡ t) [
        | true ↦ λ f. let h : UNITS_MAX < n + m = less f in lt-ltb _ _ (omega arith)
        | false ↦ λ f. let h : n + m ≤ UNITS_MAX = no_less f in le-ltb _ _ (omega arith)
      ] refl
    where
      less : nat_lt (UNITS_MAX + 0) (n + m) ≡ true → UNITS_MAX < n + m
      less f = let h = ltb-true (UNITS_MAX + 0) (n + m) f in omega arith

      no_less : nat_lt (UNITS_MAX + 0) (n + m) ≡ false → n + m ≤ UNITS_MAX
      no_less f = let h = ltb-false (UNITS_MAX + 0) (n + m) f in omega arith

  pub over_told : (m : ℕ) → is_over s g m ≡ nat_lt (UNITS_MAX + 0) (units_in_house first acts g + m)
  over_told m = more_than (stock_units g s.rows.stock) (staged_units g s.rows.staged) m (units_in_house first acts g) units_are

module _ (first : ℤ) (acts : List Act) (key : Key) (r : Receipt) (s : Slice)
    (slice : IsSlice first (record { key = key; command = Receive r }) acts (tables_of first acts) s) (history : IsHistory first acts) where
  abbrev act : Act
  act = record { key = key; command = Receive r }

  touched : same_text r.lot.gtin r.lot.gtin ≡ true
  touched = same_text_refl r.lot.gtin

  pub receive_judged : first_refusal (receive_seen s r) ≡ first_refusal (judgement first acts (Receive r))
  receive_judged =
      λ i. first_refusal (
      (not (item_told first acts act s slice refl r.lot.gtin touched i), UnknownItem)
      ∷ (not (bin_told first acts act s slice refl r.bin (same_text_refl r.bin) i), UnknownBin)
      ∷ (expiry_told first acts act s slice refl r.lot r.expiry (is_lot_refl r.lot) i, OtherExpiry)
      ∷ (recall_told first acts act s slice refl r.lot touched refl i, LotRecalled)
      ∷ (is_expired (day_seen first acts act s slice i) r.expiry, LotExpired)
      ∷ (over_told first acts act s slice refl history r.lot.gtin touched r.qty i, OverUnits) ∷ [])
