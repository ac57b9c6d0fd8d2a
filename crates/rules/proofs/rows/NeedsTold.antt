-- What the orders of an item need together is what they have open, less what is staged of it.
use Rattle.rules.proofs.Words.{◌≡◌, ℕ, ◌+◌, ◌-◌, ◌≤◌, Bool, true, false, ◌&&◌, List, [], ◌∷◌, refl, ap, sym, ◌∙◌, arith, ◌==◌, if◌then◌else◌, ℤ, Option, Some, None, find, filter, map, list_all, same_text, LotId, total, UNITS_MAX, OrderLine, StagedRow, Open, Done, Cancelled, Demand, demand_total, Act, Posting, Place, Supplier, InBin, Stage, Shipped, WriteOff, is_stage, of_item, in_house, Placed, orders, order_named, lines_placed, is_cancelled, postings, Booking, booking_of, lines_of_item, bookings, need, demand_of, demands, item_postings, staged, shipped, shipped_of, is_open, is_open_state, is_shipped_in_full, open_units, IsHistory, staged_row, if_any, AreOwn, OrderLot, staged_units, staged_seen, and_both, same_text_is, same_text_turned, AllFound, Cells, holds, holds_split, balance-of_item, legal_history, NoNeed, same_order, orders_apart, orders_found, orders_single, closed_needs_none, ordered_of, served_is, served_within_ordered, closed_is_unstaged, line_qty, ordered_within_limit, staged_holds, stage_cells, units_within_limit, Rows}
use Rattle.rules.proofs.rows.Telling.{totals_swapped, picked, once_apart, found_key}
use Rattle.rules.proofs.rows.Ordering.{total_map}
use Rattle.rules.proofs.rows.BookingSums.{total_bookings}
use Rattle.rules.proofs.rows.DemandsTold.{TellsDemands, same_total, staged_same, listed, line_found, single_of, open_is_uncancelled}

module _ (first : ℤ) (acts : List Act) (history : IsHistory first acts) (g : List ℕ) (read : Rows) (tells : TellsDemands first acts g read) where
  abbrev ips : List Posting
  ips = item_postings first acts g

  -- what is staged of the item for an order
  abbrev on_stage : List ℕ → ℕ
  on_stage o = staged ips o g

  served_bound : (o : List ℕ) → on_stage o + shipped_of first acts o g ≤ ordered_of acts o g
  served_bound o = omega (arith, served_within_ordered first acts history o g, served_is first acts (legal_history first acts history) o g, balance-of_item (is_stage o) g (of_item g) (λ l e. e) (postings first acts))

  stage_told : (o : List ℕ) → staged_seen g o read.staged ≡ on_stage o
  stage_told o = omega (arith, staged_same first acts history g read.staged tells.staged o, served_bound o, ordered_within_limit first acts history o g)

  -- Staged rows are of open orders

  no_row : (r : StagedRow) → staged_row first acts r.order r.lot ≡ Some r → is_open first acts r.order ≡ false → ⊥
  no_row r own closed =
      let none : staged_row first acts r.order r.lot ≡ None = ap (λ q. if_any q (record { order = r.order; lot = r.lot; qty = q })) (closed_is_unstaged first acts history r.order closed r.lot) in
      let f : ◌≡◌ {A = Option StagedRow} None (Some r) = sym none ∙ own in
      cc

  staged_is_open : (r : StagedRow) → staged_row first acts r.order r.lot ≡ Some r → is_open first acts r.order ≡ true
  staged_is_open r own = elim (is_open first acts r.order) as (λ b. is_open first acts r.order ≡ b → b ≡ true) [ true ↦ λ e. refl | false ↦ λ e. absurd (no_row r own e) ] refl

  unknown_is_closed : (o : List ℕ) → order_named acts o ≡ None → is_open first acts o ≡ false
  unknown_is_closed o e =
      ap (λ p. is_open_state (if is_cancelled acts o then Cancelled else (if list_all (λ l. shipped_of first acts o l.gtin == l.qty) (lines_placed p) then Done else Open))) e
      ∙ elim (is_cancelled acts o) as (λ b. is_open_state (if b then Cancelled else Done) ≡ false) [ true ↦ refl | false ↦ refl ]

  abbrev is_of : List ℕ → StagedRow → Bool
  is_of o r = same_text o r.order && of_item g r.lot

  abbrev one : Placed → StagedRow → ℕ
  one p r = if is_of p.order r then r.qty else 0

  by_name : (r : StagedRow) → staged_row first acts r.order r.lot ≡ Some r → (x : Option Placed) → order_named acts r.order ≡ x
      → total (λ (p : Placed). if same_text r.order p.order then r.qty else 0) (orders acts) ≡ r.qty
  by_name r own None e = let f : false ≡ true = sym (unknown_is_closed r.order e) ∙ staged_is_open r own in cc
  by_name r own (Some p) e =
      picked same_text same_text_is same_text_turned (λ (p : Placed). p.order) r.order (λ p. r.qty) (orders acts) p
      (once_apart same_text same_text_is same_text_turned (λ (p : Placed). p.order) (orders acts) (orders_apart first acts history)) e

  turned : (r : StagedRow) (b : Bool) (ps : List Placed)
      → total (λ (p : Placed). if same_text p.order r.order && b then r.qty else 0) ps ≡ (if b then total (λ (p : Placed). if same_text r.order p.order then r.qty else 0) ps else 0)
  turned r true [] = refl
  turned r true (p ∷ ps) = λ i. (elim (same_text p.order r.order) as (λ t. same_text p.order r.order ≡ t → (if t && true then r.qty else 0) ≡ (if same_text r.order p.order then r.qty else 0)) [
    | true ↦ λ e. ap (λ t. if t then r.qty else 0) (sym (same_text_turned r.order p.order ∙ e))
    | false ↦ λ e. ap (λ t. if t then r.qty else 0) (sym (same_text_turned r.order p.order ∙ e))
  ] refl) i + turned r true ps i
  turned r false [] = refl
  turned r false (p ∷ ps) = omega (arith, none (same_text p.order r.order), turned r false ps)
    where
      none : (t : Bool) → (if t && false then r.qty else 0) ≡ 0
      none true = refl
      none false = refl

  each_row : (rs : List StagedRow) → AreOwn {K = OrderLot} (λ (r : StagedRow). (r.order, r.lot)) (λ k. true) (λ k. staged_row first acts k.0 k.1) rs
      → total (λ r. total (λ p. one p r) (orders acts)) rs ≡ staged_units g rs
  each_row [] h = refl
  each_row (r ∷ rs) h =
      λ i. (turned r (of_item g r.lot) (orders acts) ∙ ap (λ n. if of_item g r.lot then n else 0) (by_name r h.1 (order_named acts r.order) refl)) i + each_row rs h.2 i

  each_stage : (ps : List Placed) → total (λ (p : Placed). on_stage p.order) ps ≡ total (λ (p : Placed). staged_seen g p.order read.staged) ps
  each_stage [] = refl
  each_stage (p ∷ ps) = λ i. sym (stage_told p.order) i + each_stage ps i

  stages_told : total (λ (p : Placed). on_stage p.order) (orders acts) ≡ staged_units g read.staged
  stages_told = each_stage (orders acts) ∙ totals_swapped one (orders acts) read.staged ∙ each_row read.staged tells.staged.own

  -- An order that is closed has nothing staged

  none_of_closed : (o : List ℕ) → is_open first acts o ≡ false → (rs : List StagedRow) → AreOwn {K = OrderLot} (λ (r : StagedRow). (r.order, r.lot)) (λ k. true) (λ k. staged_row first acts k.0 k.1) rs → staged_seen g o rs ≡ 0
  none_of_closed o e [] h = refl
  none_of_closed o e (r ∷ rs) h = elim (is_of o r) as (λ b. is_of o r ≡ b → (if b then r.qty else 0) + staged_seen g o rs ≡ 0) [
    | true ↦ λ t.
        let two = and_both (same_text o r.order) (of_item g r.lot) t in
        let f : false ≡ true = sym e ∙ ap (is_open first acts) (same_text_is o r.order two.0) ∙ staged_is_open r h.1 in
        cc
    | false ↦ λ t. omega (arith, none_of_closed o e rs h.2)
  ] refl

  -- Order by order

  abbrev booking_open : Booking → ℕ
  booking_open b = if is_open first acts b.order then b.ordered - shipped_of first acts b.order b.item else 0

  abbrev needed : List Booking → ℕ
  needed bs = total (λ b. need acts ips b) bs

  none_needed : (bs : List Booking) → NoNeed acts ips bs → needed bs ≡ 0
  none_needed [] h = refl
  none_needed (b ∷ bs) h = omega (arith, h.0, none_needed bs h.1)

  none_open : (p : Placed) → is_open first acts p.order ≡ false → (ls : List OrderLine) → total booking_open (map (booking_of p) ls) ≡ 0
  none_open p e [] = refl
  none_open p e (l ∷ ls) = let z : booking_open (booking_of p l) ≡ 0 = ap (λ b. if b then l.qty - shipped_of first acts p.order l.gtin else 0) e in omega (arith, z, none_open p e ls)

  ordered_is : (p : Placed) → order_named acts p.order ≡ Some p → (x : Option OrderLine) → find (λ l. same_text g l.gtin) p.lines ≡ x → ordered_of acts p.order g ≡ line_qty x
  ordered_is p named x f = ap (λ q. line_qty (find (λ l. same_text g l.gtin) (lines_placed q))) named ∙ ap line_qty f

  by_line : (p : Placed) → order_named acts p.order ≡ Some p → is_open first acts p.order ≡ true → (x : Option OrderLine) → find (λ l. same_text g l.gtin) p.lines ≡ x
      → needed (map (booking_of p) (listed x)) + on_stage p.order ≡ total booking_open (map (booking_of p) (listed x))
  by_line p named e None f = omega (arith, served_bound p.order, ordered_is p named None f)
  by_line p named e (Some l) f =
      let own : g ≡ l.gtin = found_key same_text same_text_is same_text_turned (λ (m : OrderLine). m.gtin) g p.lines l f in
      let uncancelled : is_cancelled acts p.order ≡ false = open_is_uncancelled (is_cancelled acts p.order) (is_shipped_in_full first acts p.order) e in
      let wants : need acts ips (booking_of p l) ≡ l.qty - on_stage p.order - shipped_of first acts p.order g =
      ap (λ b. if b then 0 else l.qty - staged ips p.order l.gtin - shipped ips p.order l.gtin) uncancelled ∙ (λ i. l.qty - staged ips p.order (sym own i) - shipped ips p.order (sym own i)) in
      let still : booking_open (booking_of p l) ≡ l.qty - shipped_of first acts p.order g =
      ap (λ b. if b then l.qty - shipped_of first acts p.order l.gtin else 0) e ∙ ap (λ (x : List ℕ). l.qty - shipped_of first acts p.order x) (sym own) in
      omega (arith, wants, still, served_bound p.order, ordered_is p named (Some l) f)

  each_placed : (p : Placed) → order_named acts p.order ≡ Some p → needed (lines_of_item g p) + on_stage p.order ≡ total booking_open (lines_of_item g p)
  each_placed p named = elim (is_open first acts p.order) as (λ b. is_open first acts p.order ≡ b → needed (lines_of_item g p) + on_stage p.order ≡ total booking_open (lines_of_item g p)) [
    | true ↦ λ e.
        let lines = line_found g p.lines (single_of (orders acts) [] (orders_single first acts history) p.order p named) in
        ap (λ ls. needed (map (booking_of p) ls) + on_stage p.order) lines ∙ by_line p named e (find (λ l. same_text g l.gtin) p.lines) refl
        ∙ ap (λ ls. total booking_open (map (booking_of p) ls)) (sym lines)
    | false ↦ λ e.
        omega (
          arith,
          none_needed (lines_of_item g p) (closed_needs_none first acts g p named e),
          none_open p e (filter (λ l. same_text g l.gtin) p.lines),
          stage_told p.order,
          none_of_closed p.order e read.staged tells.staged.own,
        )
  ] refl

  each_order : (ps : List Placed) → AllFound same_order (orders acts) ps
      → total (λ p. needed (lines_of_item g p)) ps + total (λ (p : Placed). on_stage p.order) ps ≡ total (λ p. total booking_open (lines_of_item g p)) ps
  each_order [] h = refl
  each_order (p ∷ ps) h = omega (arith, each_placed p h.0, each_order ps h.1)

  needs_are : demand_total (demands first acts g) ≡ total (λ p. needed (lines_of_item g p)) (orders acts)
  needs_are =
      same_total (λ (d : Demand). d.need) (demands first acts g)
      ∙ total_map (λ (d : Demand). d.need) (demand_of acts ips) (bookings acts g)
      ∙ total_bookings (λ b. need acts ips b) acts g

  open_is : open_units first acts g ≡ total (λ p. total booking_open (lines_of_item g p)) (orders acts)
  open_is = total_bookings booking_open acts g

  pub rows_tell_needs : demand_total (demands first acts g) + staged_units g read.staged ≡ open_units first acts g
  rows_tell_needs = omega (arith, needs_are, open_is, stages_told, each_order (orders acts) (orders_found first acts history))

  -- and the staged units are within the limit

  in_the_house : (p : Place) (l : LotId) → stage_cells (λ l o. of_item g l) p l ≡ true → in_house p && of_item g l ≡ true
  in_the_house (Stage q) l e = e
  in_the_house Supplier l e = let f : false ≡ true = e in cc
  in_the_house WriteOff l e = let f : false ≡ true = e in cc
  in_the_house (InBin b) l e = let f : false ≡ true = e in cc
  in_the_house (Shipped n q) l e = let f : false ≡ true = e in cc

  pub stages_within_limit : staged_units g read.staged ≤ UNITS_MAX
  stages_within_limit =
      let legal = legal_history first acts history in
      let cells : Cells = stage_cells (λ l o. of_item g l) in
      let told : holds cells (postings first acts) ≡ staged_units g read.staged = staged_holds first acts legal (λ l o. of_item g l) (λ k. of_item g k.1) (λ k. true) read.staged tells.staged (λ l q e. e) in
      let house = holds_split (postings first acts) legal cells (λ p l. in_house p && of_item g l) (record { supplier = λ m. refl; write_off = λ m. refl }) (record { supplier = λ m. refl; write_off = λ m. refl }) in_the_house in
      omega (arith, told, house, units_within_limit first acts history g)
