-- The figures by the rows of the tables are those of the machine.
use Rattle.views.proofs.Words.{◌≡◌, ℕ, ◌+◌, Bool, true, false, ◌&&◌, ◌||◌, not, List, [], refl, ap, sym, ◌∙◌, arith, ◌==◌, if◌then◌else◌, ℤ, Option, Some, None, length, map, filter, is_some, option_map, list_any, same_text, total, count_by, LotId, LotRow, LotStatus, RecallRow, StagedRow, StockRow, Recalled, Held, Expired, ShortDated, Free, Act, Place, Supplier, InBin, Stage, Shipped, WriteOff, Posting, in_house, is_bin, is_lot, any_lot, balance, KnownLot, Placed, Recalling, RETURNS, lots, orders, order_named, is_held, is_expired, is_short_dated, is_recalled, recalling, least_days, today, goes_before, is_open, is_urgent, postings, IsHistory, lot_units_in_house, lot_status, has_recall, any_found, and_both, same_text_refl, lots_order, lot_units, lot_units_told, goes_first, same_order, orders_found, legal_history, holds, holds_split, without, Cells, bin_cells, stage_cells, stock_holds, staged_holds, total_kept, total_map, total_inserted, total_ordered, known_row, Rows, is_behind, is_served_before, open_order, open_orders, orders_served, OpenOrder, ServedOrder, served_order, is_before, listed, in_service, open_order_told, is_short_order, is_staged_order, shows_expired, shows_held, shows_recalled, lots_standing, lot_figures, open_figures, figures_view, is_in_house, stands, lots_counted, is_urgent_served, orders_counted, stock_units, staged_units, figures_seen, AreCounted}
use Rattle.views.proofs.Sorting.{IsIn, of_filter}
use Rattle.views.proofs.Members.{member_found}
use Rattle.views.proofs.Counting.{once_if, count_is, length_is, total_same, count_kept, count_mapped}
use Rattle.views.proofs.ExpiringPage.{some_row}
use Rattle.views.proofs.LotsKept.{lots_are}
use Rattle.views.proofs.OpenPage.{of_served, orders_are}
use Rattle.views.proofs.OpenUnits.{weaker, order_shown}

-- a test that a short-dated lot passes as a free one does, needs no days

either : (test : LotStatus → Bool) → test ShortDated ≡ test Free → (s t : Bool) → test (if s then ShortDated else Free) ≡ test (if t then ShortDated else Free)
either test same true true = refl
either test same true false = same
either test same false true = sym same
either test same false false = refl

any_days : (test : LotStatus → Bool) → test ShortDated ≡ test Free → (r h e s t : Bool)
    → test (if r then Recalled else (if h then Held else (if e then Expired else (if s then ShortDated else Free)))) ≡ test (if r then Recalled else (if h then Held else (if e then Expired else (if t then ShortDated else Free))))
any_days test same true h e s t = refl
any_days test same false true e s t = refl
any_days test same false false true s t = refl
any_days test same false false false s t = either test same s t

module _ (first : ℤ) (acts : List Act) (history : IsHistory first acts) (rows : Rows) (are : AreCounted first acts rows) where
  -- Lots

  abbrev day : ℤ
  day = today first acts

  abbrev shown_recall : Recalling → RecallRow
  shown_recall r = record { lot = r.lot; act = r.act }

  recall_some : (x : Option Recalling) → is_some (option_map shown_recall x) ≡ is_some x
  recall_some None = refl
  recall_some (Some r) = refl

  recall_told : (l : LotId) → has_recall rows.recalls l ≡ is_recalled acts l
  recall_told l =
      sym (any_found (λ (r : RecallRow). is_lot l r.lot) rows.recalls) ∙ ap is_some (are.recalls.found l refl) ∙ recall_some (recalling acts l)

  status_told : (test : LotStatus → Bool) → test ShortDated ≡ test Free → (k : KnownLot) → stands day test rows.recalls (known_row acts k) ≡ test (lot_status first acts k)
  status_told test same k =
      any_days test same (has_recall rows.recalls k.lot) (is_held acts k.lot) (is_expired day k.expiry) (is_short_dated day 0 k.expiry) (is_short_dated day (least_days acts k.lot.gtin) k.expiry)
      ∙ (λ i. test (if recall_told k.lot i then Recalled
      else (if is_held acts k.lot then Held else (if is_expired day k.expiry then Expired
      else (if is_short_dated day (least_days acts k.lot.gtin) k.expiry then ShortDated else Free)))))

  units_told : (l : LotId) → lot_units l rows.stock rows.staged ≡ lot_units_in_house first acts l
  units_told l =
      lot_units_told first acts history l.gtin l (same_text_refl l.gtin) rows.stock rows.staged (λ k. true) (λ k. true) (λ k. true) (λ k. true) are.house.stock are.house.staged (λ m b e. refl) (λ m o e. refl)

  module _ (test : LotStatus → Bool) (same : test ShortDated ≡ test Free) where
    abbrev keep : LotRow → Bool
    keep k = is_in_house rows.stock rows.staged k && stands day test rows.recalls k

    abbrev wanted : KnownLot → Bool
    wanted k = not (lot_units_in_house first acts k.lot == 0) && test (lot_status first acts k)

    kept_same : (k : KnownLot) → keep (known_row acts k) ≡ wanted k
    kept_same k = λ i. not (units_told k.lot i == 0) && status_told test same k i

    abbrev needed : LotId → Bool
    needed l = list_any (λ (r : StockRow). is_lot l r.lot) rows.stock || list_any (λ (r : StagedRow). is_lot l r.lot) rows.staged

    needs : (k : KnownLot) → keep (known_row acts k) ≡ true → needed k.lot ≡ true
    needs k keeps = some_row k.lot rows.stock rows.staged (and_both (not (lot_units k.lot rows.stock rows.staged == 0)) (stands day test rows.recalls (known_row acts k)) keeps).0

    lots_counted_right : count_by (stands day test rows.recalls) (filter (is_in_house rows.stock rows.staged) rows.lots) ≡ lots_standing first acts test
    lots_counted_right =
        count_kept (is_in_house rows.stock rows.staged) (stands day test rows.recalls) rows.lots
        ∙ sym (total_kept (λ (k : LotRow). 1) keep rows.lots)
        ∙ from_none (total (λ (k : LotRow). 1) (filter keep rows.lots)) _ (total_inserted goes_first (λ (k : LotRow). 1) [] (filter keep rows.lots))
        ∙ ap (total (λ (k : LotRow). 1)) (lots_are acts goes_first lots_order (λ r s own. own) needed rows.lots are.house.lots keep wanted kept_same needs)
        ∙ total_map (λ (k : LotRow). 1) (known_row acts) _
        ∙ total_kept (λ (k : KnownLot). 1) wanted _
        ∙ total_ordered goes_before (λ (k : KnownLot). once_if (wanted k)) (lots acts)
        ∙ sym (count_is wanted (lots acts))
      where
        from_none : (a b : ℕ) → b ≡ 0 + a → a ≡ b
        from_none a b e = omega (arith, e)

  lots_right : lots_counted day rows ≡ lot_figures first acts
  lots_right = λ i. record {
    expired = lots_counted_right shows_expired refl i;
    held = lots_counted_right shows_held refl i;
    recalled = lots_counted_right shows_recalled refl i;
  }

  -- Orders

  abbrev row_list : List ServedOrder
  row_list = listed rows.urgents None rows.orders

  abbrev machine_list : List Placed
  machine_list = open_orders first acts None

  abbrev told : ServedOrder → OpenOrder
  told = open_order_told rows.lines rows.staged rows.reserved

  sum_served : (f : ServedOrder → ℕ) → total f row_list ≡ total (λ p. f (served_order first acts p)) machine_list
  sum_served f =
      from_none (total f row_list) (total f (in_service rows.urgents None rows.orders)) (total_inserted is_before f [] row_list)
      ∙ ap (total f) (orders_are first acts history None None refl rows.orders rows.urgents are.open_orders)
      ∙ total_map f (served_order first acts) machine_list
    where
      from_none : (a b : ℕ) → b ≡ 0 + a → a ≡ b
      from_none a b e = omega (arith, e)

  one_order : (p : Placed) → IsIn p machine_list → told (served_order first acts p) ≡ open_order first acts p
  one_order p h =
      let a = of_filter (λ p. is_open first acts p.order && is_behind is_served_before None p) p (orders_served acts) h in
      let named : order_named acts p.order ≡ Some p = member_found same_order (orders acts) (orders acts) (orders_found first acts history) p (of_served acts p a.0) in
      let here : is_open first acts p.order ≡ true = (and_both (is_open first acts p.order) true a.1).0 in
      sym (order_shown first acts history p named (is_open first acts) here rows.lines are.lines rows.staged (weaker (λ k e. refl) are.house.staged) rows.reserved (weaker (λ k e. refl) are.reserved))

  told_right : (test : OpenOrder → Bool) → count_by test (map told row_list) ≡ count_by test (map (open_order first acts) machine_list)
  told_right test =
      count_mapped test told row_list
      ∙ sum_served (λ s. once_if (test (told s)))
      ∙ total_same (λ p. once_if (test (told (served_order first acts p)))) (λ p. once_if (test (open_order first acts p))) machine_list (λ p h. ap (λ o. once_if (test o)) (one_order p h))
      ∙ sym (count_mapped test (open_order first acts) machine_list)

  orders_right : orders_counted rows ≡ open_figures first acts
  orders_right =
      let all = length_is row_list ∙ sum_served (λ s. 1) ∙ sym (length_is machine_list) in
      let urgent = count_is is_urgent_served row_list ∙ sum_served (λ s. once_if (is_urgent_served s)) ∙ sym (count_is is_urgent machine_list) in
      λ i. record { orders = all i; short = told_right is_short_order i; staged = told_right is_staged_order i; urgent = urgent i }

  -- Units

  abbrev ps : List Posting
  ps = postings first acts

  abbrev house : Cells
  house p m = in_house p && true

  bins_inside : (p : Place) (m : LotId) → bin_cells (λ m b. true) p m ≡ true → in_house p && true ≡ true
  bins_inside (InBin b) m e = e
  bins_inside (Stage o) m e = let f : false ≡ true = e in cc
  bins_inside Supplier m e = e
  bins_inside WriteOff m e = e
  bins_inside (Shipped n o) m e = e

  stages_left : (p : Place) (m : LotId) → without house (bin_cells (λ m b. true)) p m ≡ stage_cells (λ m o. true) p m
  stages_left (InBin b) m = refl
  stages_left (Stage o) m = refl
  stages_left Supplier m = refl
  stages_left WriteOff m = refl
  stages_left (Shipped n o) m = refl

  house_right : stock_units rows.stock + staged_units rows.staged ≡ balance in_house any_lot ps
  house_right =
      let legal = legal_history first acts history in
      let split = holds_split ps legal (bin_cells (λ m b. true)) house (record { supplier = λ m. refl; write_off = λ m. refl }) (record { supplier = λ m. refl; write_off = λ m. refl }) bins_inside in
      let in_bins = stock_holds first acts legal (λ m b. true) (λ k. true) (λ k. true) rows.stock are.house.stock (λ l b e. refl) in
      let on_stages = (λ j. holds (λ p m. stages_left p m j) ps) ∙ staged_holds first acts legal (λ m o. true) (λ k. true) (λ k. true) rows.staged are.house.staged (λ l o e. refl) in
      omega (arith, split, in_bins, on_stages)

  one_bin : (p : Place) (m : LotId) → bin_cells (λ m b. same_text RETURNS b) p m ≡ is_bin RETURNS p && true
  one_bin (InBin b) m = kept (same_text RETURNS b)
    where
      kept : (a : Bool) → a ≡ a && true
      kept true = refl
      kept false = refl
  one_bin (Stage o) m = refl
  one_bin Supplier m = refl
  one_bin WriteOff m = refl
  one_bin (Shipped n o) m = refl

  returns_right : stock_units (filter (λ (r : StockRow). same_text RETURNS r.bin) rows.stock) ≡ balance (is_bin RETURNS) any_lot ps
  returns_right =
      total_kept (λ (r : StockRow). r.qty) (λ (r : StockRow). same_text RETURNS r.bin) rows.stock
      ∙ sym (stock_holds first acts (legal_history first acts history) (λ m b. same_text RETURNS b) (λ k. true) (λ k. true) rows.stock are.house.stock (λ l b e. refl))
      ∙ (λ j. holds (λ p m. one_bin p m j) ps)

  pub figures_right : figures_seen (length acts) day rows ≡ figures_view first acts
  figures_right = λ i. record {
    act = length acts;
    day = day;
    lots = lots_right i;
    open_orders = orders_right i;
    units = record { house = house_right i; returns = returns_right i };
  }
