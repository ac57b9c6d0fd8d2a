-- The rows of a slice after an act by which one lot stops being shippable: what was staged of it stands in RETURNS.
use Rattle.rules.proofs.Words.{◌≡◌, ℕ, ◌≤◌, true, false, ◌&&◌, List, [], ◌∷◌, ◌++◌, refl, ap, sym, ◌∙◌, arith, eq-eqb, ◌==◌, ◌||◌, if◌then◌else◌, Some, None, find, length, option_map, nat_le, codes, decimal, ℤ, list_any, same_text, LotId, total, ACTS_MAX, NewBin, BinRow, LotRow, RecallRow, StockRow, StagedRow, OrderRow, LineRow, Act, next_number, is_lot, of_item, RETURNS, has_line, postings, in_bin, staged_of_lot, is_open, reply, further_field, returned_field, units_returned, IsHistory, tables_of, if_any, bin_row, lot_row, recall_row, stock_row, order_row, line_row, staged_row, is_touched, AreRows, LotBin, OrderLot, no_two, same_cell, same_line, same_share, IsSlice, changed, plans, names_lot, in_bins, on_stages, stock_put, stock_gone, staged_of_seen, staged_kept, staged_returned, units_in_returns, returned_put, stock_with_returned, returns_bin_row, bins_with_returns, returned_reply, Slice, and_both, or_first, or_later, is_zero, same_text_refl, same_text_is, is_lot_is, is_lot_item, holds, legal_history, returns_named, staged_holds, MakesUnshippable, stages_of, unstaged, staged_still, in_bin_still, in_returns, all_returned, open_still, line_still, order_row_still, line_row_still, rows_after_return}
use Rattle.rules.proofs.rows.AfterRows.{loosened}
use Rattle.rules.proofs.rows.DemandsTold.{TellsDemands}
use Rattle.rules.proofs.rows.DroppedRows.{rows_left, dropped_at}
use Rattle.rules.proofs.rows.LotTold.{found_stock, in_bin_told}
use Rattle.rules.proofs.rows.LotUnits.{bin_within_limit}
use Rattle.rules.proofs.rows.Planned.{no_pick}
use Rattle.rules.proofs.rows.SameKeys.{same_share_is}
use Rattle.rules.proofs.rows.ClassesTold.{same_urgents}
use Rattle.rules.proofs.rows.SliceDemands.{slice_tells_stages, slice_tells_demands}
use Rattle.rules.proofs.rows.SliceSupplies.{slice_tells_supplies, is_wanted}
use Rattle.rules.proofs.rows.SliceTells.{names_touched}
use Rattle.rules.proofs.rows.StockChanged.{with_units, stock_rows_are, bins_with, lots_with, cell_changed, stock_row_with}
use Rattle.rules.proofs.rows.SuppliesTold.{TellsSupplies, in_stock}
use Rattle.rules.proofs.decided.Decisions.{number_same}

pub still_some : (a b : ℕ) → (a == 0) ≡ false → a ≤ b → (b == 0) ≡ false
still_some a b e h =
    elim (b == 0) as (λ t. (b == 0) ≡ t → t ≡ false) [
      | true ↦ λ f.
          let z : b ≡ 0 = is_zero b f in
          let y : a ≡ 0 = omega arith in
          sym (eq-eqb a 0 y) ∙ e
      | false ↦ λ f. refl
    ] refl

-- one row at most is put
pub returned_once : (s : Slice) (l : LotId) → no_two (λ (a b : StockRow). is_lot a.lot b.lot && same_text a.bin b.bin) (returned_put s l) ≡ true
returned_once s l = elim (staged_of_seen s l == 0) as (λ t. no_two (λ (a b : StockRow). is_lot a.lot b.lot && same_text a.bin b.bin) (if t then [] else stock_put l RETURNS (units_in_returns s l)) ≡ true) [
  | true ↦ refl
  | false ↦ elim (units_in_returns s l == 0) as (λ t. no_two (λ (a b : StockRow). is_lot a.lot b.lot && same_text a.bin b.bin) (if t then [] else record { lot = l; bin = RETURNS; qty = units_in_returns s l } ∷ []) ≡ true) [ true ↦ refl | false ↦ refl ]
]

module _ (first : ℤ) (acts : List Act) (act : Act) (l : LotId) (s : Slice) (slice : IsSlice first act acts (tables_of first acts) s) (planned : plans act.command ≡ true) (named : names_lot act.command l ≡ true)
    (makes : MakesUnshippable first acts act l) (next : IsHistory first (act ∷ acts)) where
  abbrev after : List Act
  after = act ∷ acts

  abbrev g : List ℕ
  g = l.gtin

  touched : is_touched first act acts l.gtin ≡ true
  touched = names_touched first act acts act.command l named

  staged_are : AreRows same_share (λ (r : StagedRow). (r.order, r.lot)) (λ (k : OrderLot). of_item g k.1) (λ (k : OrderLot). true) (λ k. staged_row first acts k.0 k.1) s.rows.staged
  staged_are = slice_tells_stages first acts act s slice g touched (no_pick act.command planned)

  stock_are : AreRows same_cell (λ (r : StockRow). (r.lot, r.bin)) (λ (k : LotBin). of_item g k.0) (λ (k : LotBin). true) (λ k. stock_row first acts k.0 k.1) s.rows.stock
  stock_are = (slice_tells_supplies first acts act s slice planned g touched).stock

  -- Units

  staged_total : holds (stages_of l) (postings first acts) ≡ total (λ (r : StagedRow). if is_lot l r.lot then r.qty else 0) s.rows.staged
  staged_total = staged_holds first acts (legal_history first acts next.0) (λ m o. is_lot l m) _ _ s.rows.staged staged_are (λ m o e. is_lot_item l m e)

  -- what is staged of the lot is what is returned
  pub staged_seen_is : staged_of_seen s l ≡ units_returned first act acts
  staged_seen_is =
      omega (arith, staged_total, all_returned first acts act l makes next, in_returns first acts act l makes next, bin_within_limit first after next g l (same_text_refl g) RETURNS)

  in_returns_is : units_in_returns s l ≡ in_bin first after RETURNS l
  in_returns_is =
      omega (arith, staged_seen_is, all_returned first acts act l makes next, in_bin_told first acts act s slice planned RETURNS l touched, in_returns first acts act l makes next, bin_within_limit first after next g l (same_text_refl g) RETURNS)

  -- Stock

  stock_same : (k : LotBin) → with_units l RETURNS (units_in_returns s l) (λ k. stock_row first acts k.0 k.1) k ≡ stock_row first after k.0 k.1
  stock_same = stock_row_with first acts after l RETURNS (units_in_returns s l) (sym in_returns_is) (λ m c e. in_bin_still first acts act l makes next c m e)

  nothing_came : (staged_of_seen s l == 0) ≡ true → (m : LotId) (b : List ℕ) → in_bin first after b m ≡ in_bin first acts b m
  nothing_came e m b = elim (same_cell (m, b) (l, RETURNS)) as (λ t. same_cell (m, b) (l, RETURNS) ≡ t → in_bin first after b m ≡ in_bin first acts b m) [
    | true ↦ λ t.
        let two = and_both (is_lot m l) (same_text b RETURNS) t in
        let m' : m ≡ l = is_lot_is m l two.0 in
        let b' : b ≡ RETURNS = same_text_is b RETURNS two.1 in
        (λ i. in_bin first after (b' i) (m' i)) ∙ none ∙ (λ i. in_bin first acts (sym b' i) (sym m' i))
    | false ↦ λ t. in_bin_still first acts act l makes next b m t
  ] refl
    where
      none : in_bin first after RETURNS l ≡ in_bin first acts RETURNS l
      none = let z : staged_of_seen s l ≡ 0 = is_zero _ e in omega (arith, z, staged_seen_is, all_returned first acts act l makes next, in_returns first acts act l makes next)

  pub returned_stock_at : (m : LotId) (b : List ℕ) → changed (λ (r : StockRow). is_lot m r.lot && same_text b r.bin) (returned_put s l) [] (stock_row first acts m b) ≡ stock_row first after m b
  returned_stock_at m b =
      elim (staged_of_seen s l == 0) as (λ t. (staged_of_seen s l == 0) ≡ t → changed (λ (r : StockRow). is_lot m r.lot && same_text b r.bin) (if t then [] else stock_put l RETURNS q) [] (stock_row first acts m b) ≡ stock_row first after m b) [
        | true ↦ λ e. ap (λ n. if_any n (record { lot = m; bin = b; qty = n })) (sym (nothing_came e m b))
        | false ↦ λ e.
            ap (λ xs. changed (λ (r : StockRow). is_lot m r.lot && same_text b r.bin) (stock_put l RETURNS q) xs (stock_row first acts m b)) (sym (ap (λ t. if t then cons_found else []) (some e)))
            ∙ cell_changed l RETURNS q (λ k. stock_row first acts k.0 k.1) (in_bin first acts RETURNS l) s.rows.stock (found_stock first acts act s slice planned l RETURNS touched) refl (m, b)
            ∙ stock_same (m, b)
      ] refl
    where
      q : ℕ
      q = units_in_returns s l

      cons_found : List StockRow
      cons_found = stock_gone s.rows.stock l RETURNS 0

      some : (staged_of_seen s l == 0) ≡ false → (q == 0) ≡ false
      some e = still_some (staged_of_seen s l) q e (omega (arith, in_returns_is, staged_seen_is, all_returned first acts act l makes next, in_returns first acts act l makes next))

  -- Stages

  staged_same : (k : OrderLot) → (if is_lot l k.1 then None else staged_row first acts k.0 k.1) ≡ staged_row first after k.0 k.1
  staged_same k = elim (is_lot l k.1) as (λ t. is_lot l k.1 ≡ t → (if t then None else staged_row first acts k.0 k.1) ≡ staged_row first after k.0 k.1) [
    | true ↦ λ t. ap (λ (m : LotId). if_any 0 (record { order = k.0; lot = m; qty = 0 })) (is_lot_is l k.1 t) ∙ sym (ap (λ n. if_any n (record { order = k.0; lot = k.1; qty = n })) (none t))
    | false ↦ λ t. ap (λ n. if_any n (record { order = k.0; lot = k.1; qty = n })) (sym (staged_still first acts act l makes next k.0 k.1 t))
  ] refl
    where
      none : is_lot l k.1 ≡ true → staged_of_lot first after k.0 k.1 ≡ 0
      none t = ap (λ (m : LotId). staged_of_lot first after k.0 m) (sym (is_lot_is l k.1 t)) ∙ unstaged first acts act l makes next k.0

  pub returned_staged_at : (o : List ℕ) (m : LotId) → changed (λ (r : StagedRow). same_text o r.order && is_lot m r.lot) [] (staged_returned s l) (staged_row first acts o m) ≡ staged_row first after o m
  returned_staged_at o m =
      dropped_at same_share same_share_is (λ (r : StagedRow). (r.order, r.lot)) (λ k. is_lot l k.1) (λ k. staged_row first acts k.0 k.1) s.rows.staged (o, m) (λ e. staged_are.found (o, m) (is_lot_item l m e))
      ∙ staged_same (o, m)

  -- The demands and supplies of its item

  pub demands_after : (lots : List LotRow) (recalls : List RecallRow) → TellsDemands first after g (rows_after_return s l lots recalls)
  demands_after lots recalls =
      let before = slice_tells_demands first acts act s slice planned g touched in
      let wanted : (o : List ℕ) → is_open first after o && has_line after o g ≡ true → is_open first acts o && has_line acts o g ≡ true = λ o e. (λ i. open_still first acts act l makes next o i && line_still first acts act l makes next o g i) ∙ e in
      record {
        orders = loosened same_text (λ (x : OrderRow). x.order) (λ o. is_open first acts o && has_line acts o g) (λ o. is_open first after o && has_line after o g) (λ o. true) (λ o. true) (order_row first acts) (order_row first after) s.rows.orders
            wanted (λ o e. refl) (order_row_still first acts act l makes next) before.orders;
        lines = loosened same_line (λ (x : LineRow). (x.order, x.gtin)) (λ k. is_open first acts k.0 && same_text g k.1) (λ k. is_open first after k.0 && same_text g k.1) (λ k. true) (λ k. true) (λ k. line_row first acts k.0 k.1) (λ k. line_row first after k.0 k.1) s.rows.lines
            (λ k e. ap (λ b. b && same_text g k.1) (open_still first acts act l makes next k.0) ∙ e) (λ k e. refl) (λ k. line_row_still first acts act l makes next k.0 k.1) before.lines;
        staged = loosened same_share (λ (x : StagedRow). (x.order, x.lot)) (λ k. of_item g k.1) (λ k. of_item g k.1) (λ k. true) (λ k. true) (λ k. if is_lot l k.1 then None else staged_row first acts k.0 k.1) (λ k. staged_row first after k.0 k.1) (staged_kept s l)
            (λ k e. e) (λ k e. refl) staged_same
            (rows_left same_share same_share_is (λ (r : StagedRow). (r.order, r.lot)) (λ k. is_lot l k.1) (λ k. staged_row first acts k.0 k.1) (λ k. of_item g k.1) s.rows.staged staged_are);
        urgents = λ o e. before.urgents o (wanted o e) ∙ same_urgents acts after makes.same_orders o;
      }

  bin_there : (b : List ℕ) → list_any (λ (r : StockRow). same_text b r.bin) (stock_with_returned s l) ≡ true → find (λ (r : BinRow). same_text b r.name) (bins_with_returns s) ≡ bin_row after b
  bin_there b e =
      elim (same_text b RETURNS) as (λ t. same_text b RETURNS ≡ t → (if t then Some returns_bin_row else find (λ (r : BinRow). same_text b r.name) s.rows.bins) ≡ bin_row after b) [
        | true ↦ λ t. sym (ap (λ (x : List ℕ). bin_row after x) (same_text_is b RETURNS t) ∙ ap (option_map (λ (x : NewBin). record { name = x.bin; kind = x.kind })) (returns_named first after next))
        | false ↦ λ t.
            (slice_tells_supplies first acts act s slice planned g touched).bins b (behind t (bins_with l RETURNS (units_in_returns s l) b s.rows.stock e))
            ∙ (λ i. option_map (λ (x : NewBin). record { name = x.bin; kind = x.kind }) (find (λ (x : NewBin). same_text b x.bin) (makes.same_bins i)))
      ] refl
    where
      behind : same_text b RETURNS ≡ false → same_text b RETURNS || list_any (λ (r : StockRow). same_text b r.bin) s.rows.stock ≡ true → list_any (λ (r : StockRow). same_text b r.bin) s.rows.stock ≡ true
      behind t f = ap (λ x. x || list_any (λ (r : StockRow). same_text b r.bin) s.rows.stock) (sym t) ∙ f

  -- no lot comes into the stock rows but this one
  only_this : (m : LotId) → is_lot m l || in_bins s.rows m ≡ true → names_lot act.command m || in_bins s.rows m ≡ true
  only_this m = elim (is_lot m l) as (λ b. is_lot m l ≡ b → b || in_bins s.rows m ≡ true → names_lot act.command m || in_bins s.rows m ≡ true) [
    | true ↦ λ t h. or_first (names_lot act.command m) (in_bins s.rows m) (ap (λ (k : LotId). names_lot act.command k) (is_lot_is m l t) ∙ named)
    | false ↦ λ t h. or_later (names_lot act.command m) (in_bins s.rows m) h
  ] refl

  still_wanted : (m : LotId) → in_stock g (stock_with_returned s l) m ≡ true → is_wanted act.command s.rows g m ≡ true
  still_wanted m e =
      let two = and_both (of_item g m) (list_any (λ (r : StockRow). is_lot m r.lot) (stock_with_returned s l)) e in
      λ i. two.0 i && or_first (names_lot act.command m || in_bins s.rows m) (on_stages s.rows m) (only_this m (lots_with l RETURNS (units_in_returns s l) m s.rows.stock two.1)) i

  pub supplies_after : (lots : List LotRow) (recalls : List RecallRow) → AreRows is_lot (λ (r : LotRow). r.lot) (is_wanted act.command s.rows g) (λ m. true) (lot_row after) lots
      → ((m : LotId) → of_item g m ≡ true → find (λ (r : RecallRow). is_lot m r.lot) recalls ≡ recall_row after m)
      → TellsSupplies first after g (rows_after_return s l lots recalls)
  supplies_after lots recalls lots_are recalls_are = record {
    lots = loosened is_lot (λ (r : LotRow). r.lot) (is_wanted act.command s.rows g) (in_stock g (stock_with_returned s l)) (λ m. true) (λ m. true) (lot_row after) (lot_row after) lots still_wanted (λ m e. e) (λ m. refl) lots_are;
    recalls = recalls_are;
    stock = loosened same_cell (λ (r : StockRow). (r.lot, r.bin)) (λ k. of_item g k.0) (λ k. of_item g k.0) (λ k. true) (λ k. true) (with_units l RETURNS (units_in_returns s l) (λ k. stock_row first acts k.0 k.1)) (λ k. stock_row first after k.0 k.1) (stock_with_returned s l)
        (λ k e. e) (λ k e. refl) stock_same
        (stock_rows_are l RETURNS (units_in_returns s l) (λ k. of_item g k.0) (λ k. stock_row first acts k.0 k.1) s.rows.stock stock_are);
    bins = bin_there;
  }

  -- The reply

  pub returned_text : nat_le ACTS_MAX (length acts) ≡ false → further_field first act acts act.command ≡ returned_field (units_returned first act acts) → returned_reply s l ≡ reply first act acts
  returned_text room field =
      (λ i. codes "{\"act\":" ++ decimal (number_same first acts act s slice room i) ++ returned_field (staged_seen_is i) ++ codes "}")
      ∙ ap (λ xs. codes "{\"act\":" ++ decimal (next_number acts) ++ xs ++ codes "}") (sym field)
