-- The open units of an item as the rows of a slice tell them.
use Rattle.rules.proofs.Words.{◌≡◌, ℕ, ◌+◌, ◌-◌, true, false, ◌&&◌, List, [], ◌∷◌, refl, ap, sym, subst, ◌∙◌, arith, if◌then◌else◌, ℤ, Option, Some, None, find, filter, map, option_map, list_any, same_text, total, OrderLine, OrderRow, Act, Placed, orders, order_named, lines_placed, has_line, Booking, booking_of, lines_of_item, shipped_of, is_open, order_state, open_units, IsHistory, order_row, AreOwn, open_of_line, same_text_is, same_text_turned, AllFound, same_order, orders_apart, orders_found, orders_single, Rows}
use Rattle.rules.proofs.rows.BookingSums.{total_bookings}
use Rattle.rules.proofs.rows.OpenByLines.{units_open, open_of_order, open_by_lines}
use Rattle.rules.proofs.rows.Telling.{rows_tell, some_of_mapped, found_key}
use Rattle.rules.proofs.rows.DemandsTold.{TellsDemands, listed, line_found, single_of, line_told, no_line, either}

module _ (first : ℤ) (acts : List Act) (history : IsHistory first acts) (g : List ℕ) (read : Rows) (tells : TellsDemands first acts g read) where
  abbrev show : Placed → OrderRow
  show p = record { order = p.order; act = p.act; customer = p.customer; state = order_state first acts p.order }

  -- what a booking still has open
  abbrev booking_open : Booking → ℕ
  booking_open b = if is_open first acts b.order then b.ordered - shipped_of first acts b.order b.item else 0

  abbrev open_of : Option Placed → ℕ
  open_of None = 0
  open_of (Some p) = total booking_open (lines_of_item g p)

  abbrev order_open : List ℕ → ℕ
  order_open o = open_of (order_named acts o)

  none_open : (p : Placed) → is_open first acts p.order ≡ false → (ls : List OrderLine) → total booking_open (map (booking_of p) ls) ≡ 0
  none_open p e [] = refl
  none_open p e (l ∷ ls) = let z : booking_open (booking_of p l) ≡ 0 = ap (λ b. if b then l.qty - shipped_of first acts p.order l.gtin else 0) e in omega (arith, z, none_open p e ls)

  by_line : (p : Placed) → is_open first acts p.order ≡ true → (x : Option OrderLine) → find (λ l. same_text g l.gtin) p.lines ≡ x
      → units_open (option_map (λ l. record { order = p.order; gtin = g; ordered = l.qty; shipped = shipped_of first acts p.order g }) x) ≡ total booking_open (map (booking_of p) (listed x))
  by_line p e None f = refl
  by_line p e (Some l) f =
      let own : g ≡ l.gtin = found_key same_text same_text_is same_text_turned (λ (m : OrderLine). m.gtin) g p.lines l f in
      let still : booking_open (booking_of p l) ≡ l.qty - shipped_of first acts p.order l.gtin = ap (λ b. if b then l.qty - shipped_of first acts p.order l.gtin else 0) e in
      let same : l.qty - shipped_of first acts p.order g ≡ l.qty - shipped_of first acts p.order l.gtin = ap (λ (x : List ℕ). l.qty - shipped_of first acts p.order x) own in
      same ∙ sym still ∙ omega arith

  at_placed : (p : Placed) → order_named acts p.order ≡ Some p → open_of_order g read.lines (show p) ≡ order_open p.order
  at_placed p named =
      elim (is_open first acts p.order) as (λ b. is_open first acts p.order ≡ b
      → (if b then units_open (find (λ l. same_text p.order l.order && same_text g l.gtin) read.lines) else 0) ≡ total booking_open (lines_of_item g p)) [
        | true ↦ λ e.
            ap units_open (line_told first acts history g read tells p named e) ∙ by_line p e (find (λ l. same_text g l.gtin) p.lines) refl
            ∙ ap (λ ls. total booking_open (map (booking_of p) ls)) (sym (line_found g p.lines (single_of (orders acts) [] (orders_single first acts history) p.order p named)))
        | false ↦ λ e. sym (none_open p e (filter (λ l. same_text g l.gtin) p.lines))
      ] refl
      ∙ sym (ap open_of named)

  row_told : (r : OrderRow) → order_row first acts r.order ≡ Some r → open_of_order g read.lines r ≡ order_open r.order
  row_told r e =
      let m = some_of_mapped show (order_named acts r.order) r e in
      let P : OrderRow → Type 0 = λ x. open_of_order g read.lines x ≡ order_open x.order in
      subst P m.2 (at_placed m.0 (ap (λ (x : OrderRow). order_named acts x.order) m.2 ∙ m.1))

  rows_told : (rows : List OrderRow) → AreOwn (λ (r : OrderRow). r.order) (λ o. true) (order_row first acts) rows → total (open_of_order g read.lines) rows ≡ total (λ (r : OrderRow). order_open r.order) rows
  rows_told [] h = refl
  rows_told (r ∷ rs) h = λ i. row_told r h.1 i + rows_told rs h.2 i

  none_if_not_needed : (p : Placed) → order_named acts p.order ≡ Some p → is_open first acts p.order && has_line acts p.order g ≡ false → order_open p.order ≡ 0
  none_if_not_needed p named e =
      ap open_of named
      ∙ elim (is_open first acts p.order) as (λ b. is_open first acts p.order ≡ b → total booking_open (lines_of_item g p) ≡ 0) [
        | true ↦ λ t.
            let none : list_any (λ l. same_text g l.gtin) p.lines ≡ false =
            ap (λ q. list_any (λ l. same_text g l.gtin) (lines_placed q)) (sym named) ∙ either (is_open first acts p.order) (has_line acts p.order g) e t in
            ap (λ ls. total booking_open (map (booking_of p) ls)) (no_line g p.lines none)
        | false ↦ λ t. none_open p t (filter (λ l. same_text g l.gtin) p.lines)
      ] refl

  each_named : (ps : List Placed) → AllFound same_order (orders acts) ps → total (λ (p : Placed). order_open p.order) ps ≡ total (λ (p : Placed). total booking_open (lines_of_item g p)) ps
  each_named [] h = refl
  each_named (p ∷ ps) h = λ i. open_of (h.0 i) + each_named ps h.1 i

  -- the rows tell the open units of the item
  pub rows_tell_open_units : total (open_of_line g read.orders) read.lines ≡ open_units first acts g
  rows_tell_open_units =
      open_by_lines g read.orders read.lines tells.orders.once tells.lines.once
      ∙ rows_told read.orders tells.orders.own
      ∙ rows_tell same_text same_text_is same_text_turned (λ (p : Placed). p.order) (λ (r : OrderRow). r.order) show (orders acts) (orders_apart first acts history) (orders_found first acts history)
      order_open (λ o. is_open first acts o && has_line acts o g) (λ o. true) read.orders tells.orders.found tells.orders.own tells.orders.once none_if_not_needed
      ∙ each_named (orders acts) (orders_found first acts history) ∙ sym (total_bookings booking_open acts g)
