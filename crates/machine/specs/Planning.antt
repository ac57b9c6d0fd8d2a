-- Balances by their names, demands, supplies and the plan of an item.
use Rattle.std.specs.Prelude.{ℕ, ◌-◌, Bool, true, false, not, ◌&&◌, ◌||◌, ◌==◌, nat_lt, if◌then◌else◌, List, ◌++◌, map, reverse, flat_map, filter, Option, Some, None, ℤ, int_lt}
use Rattle.std.specs.List.{list_all}
use Rattle.machine.specs.Words.{same_text, LotId, total, in_order, OrderLine, Row, plan_rows, reserved_in, reserved_for}
use Rattle.commands.specs.declared.rows.OrderState.{OrderState}
use Rattle.commands.specs.declared.rows.OrderState.TheVariants.{Open, Done, Cancelled}
use Rattle.plan.specs.declared.Demand.{Demand}
use Rattle.plan.specs.declared.Supply.{Supply}
use Rattle.machine.specs.Acts.{Act}
use Rattle.machine.specs.Postings.{Place, InBin, Posting, balance, is_bin, is_lot, any_lot, of_item, is_stage, is_shipped_to, in_house}
use Rattle.machine.specs.Standing.{KnownLot, lots_of, lot_known, is_shippable, is_store_bin, Placed, orders, order_named, lines_of, is_cancelled}
use Rattle.machine.specs.Ledger.{postings}

-- Balances

-- the units of a lot in a bin
abbrev pub in_bin : ℤ → List Act → List ℕ → LotId → ℕ
in_bin first acts b l = balance (is_bin b) (is_lot l) (postings first acts)

-- the units of a lot that are staged for an order
abbrev pub staged_of_lot : ℤ → List Act → List ℕ → LotId → ℕ
staged_of_lot first acts o l = balance (is_stage o) (is_lot l) (postings first acts)

-- all units that are staged for an order
abbrev pub staged_for_order : ℤ → List Act → List ℕ → ℕ
staged_for_order first acts o = balance (is_stage o) any_lot (postings first acts)

-- the postings of an item: its plan depends on no others
abbrev pub item_postings : ℤ → List Act → List ℕ → List Posting
item_postings first acts g = filter (λ p. of_item g p.lot) (postings first acts)

-- the units of an item that are staged for an order, and those that are shipped to it
abbrev pub staged : List Posting → List ℕ → List ℕ → ℕ
staged ps o g = balance (is_stage o) (of_item g) ps

abbrev pub shipped : List Posting → List ℕ → List ℕ → ℕ
shipped ps o g = balance (is_shipped_to o) (of_item g) ps

abbrev pub shipped_of : ℤ → List Act → List ℕ → List ℕ → ℕ
shipped_of first acts o g = shipped (item_postings first acts g) o g

-- the units of an item in bins or staged
abbrev pub units_in_house : ℤ → List Act → List ℕ → ℕ
units_in_house first acts g = balance in_house (of_item g) (postings first acts)

-- the place is a STORE bin
abbrev pub in_store : List Act → Place → Bool
in_store acts (InBin b) = is_store_bin acts b
in_store acts _ = false

-- the units of a lot in STORE bins
abbrev pub store_units : List Act → List Posting → LotId → ℕ
store_units acts ps l = balance (in_store acts) (is_lot l) ps

-- The state of an order: DONE when every line is shipped in full, CANCELLED after Cancel, otherwise OPEN

abbrev pub is_shipped_in_full : ℤ → List Act → List ℕ → Bool
is_shipped_in_full first acts o = list_all (λ l. shipped_of first acts o l.gtin == l.qty) (lines_of acts o)

abbrev pub order_state : ℤ → List Act → List ℕ → OrderState
order_state first acts o = if is_cancelled acts o then Cancelled else (if is_shipped_in_full first acts o then Done else Open)

abbrev pub is_open_state : OrderState → Bool
is_open_state Open = true
is_open_state Done = false
is_open_state Cancelled = false

abbrev pub is_open : ℤ → List Act → List ℕ → Bool
is_open first acts o = is_open_state (order_state first acts o)

-- Demands

-- one order line, with its order
pub record Booking : Type 0 where
  pub order : List ℕ
  pub act : ℕ
  pub customer : List ℕ
  pub item : List ℕ
  pub ordered : ℕ

abbrev pub booking_of : Placed → OrderLine → Booking
booking_of p l = record { order = p.order; act = p.act; customer = p.customer; item = l.gtin; ordered = l.qty }

abbrev pub lines_of_item : List ℕ → Placed → List Booking
lines_of_item g p = map (booking_of p) (filter (λ l. same_text g l.gtin) p.lines)

abbrev pub is_urgent : Placed → Bool
is_urgent p = p.urgent

abbrev pub is_normal : Placed → Bool
is_normal p = not p.urgent

-- those of a class of orders, by the act number of their order
abbrev pub bookings_of : (Placed → Bool) → List Act → List ℕ → List Booking
bookings_of class acts g = reverse (flat_map (lines_of_item g) (filter class (orders acts)))

-- the bookings of an item in the order in which they are served: those of urgent orders, then those of the others
abbrev pub bookings : List Act → List ℕ → List Booking
bookings acts g = bookings_of is_urgent acts g ++ bookings_of is_normal acts g

-- ordered less staged less shipped, or 0 if cancelled
abbrev pub need : List Act → List Posting → Booking → ℕ
need acts ps b = if is_cancelled acts b.order then 0 else b.ordered - staged ps b.order b.item - shipped ps b.order b.item

abbrev pub demand_of : List Act → List Posting → Booking → Demand
demand_of acts ps b = record { booking = b.act; need = need acts ps b }

abbrev pub demands : ℤ → List Act → List ℕ → List Demand
demands first acts g = map (demand_of acts (item_postings first acts g)) (bookings acts g)

-- Supplies

-- by expiry, then by rank
abbrev pub goes_before : KnownLot → KnownLot → Bool
goes_before k m = int_lt k.expiry m.expiry || (not (int_lt m.expiry k.expiry) && nat_lt k.came m.came)

-- the shippable lots of an item in the order in which they are used
abbrev pub shippable_lots : ℤ → List Act → List ℕ → List KnownLot
shippable_lots first acts g = in_order goes_before (filter (is_shippable first acts) (lots_of acts g))

-- each with its units in STORE bins
abbrev pub supply_of : List Act → List Posting → KnownLot → Supply
supply_of acts ps k = record { lot = k.came; avail = store_units acts ps k.lot }

abbrev pub supplies : ℤ → List Act → List ℕ → List Supply
supplies first acts g = map (supply_of acts (item_postings first acts g)) (shippable_lots first acts g)

-- The plan

abbrev pub plan : ℤ → List Act → List ℕ → List Row
plan first acts g = plan_rows (demands first acts g) (supplies first acts g)

abbrev pub reserved_of : Option Placed → Option KnownLot → List Row → ℕ
reserved_of None k rows = 0
reserved_of (Some p) None rows = 0
reserved_of (Some p) (Some k) rows = reserved_in p.act k.came rows

-- what of the lot is reserved for the order
abbrev pub reserved : ℤ → List Act → List ℕ → LotId → ℕ
reserved first acts o l = reserved_of (order_named acts o) (lot_known acts l) (plan first acts l.gtin)

-- what a booking needs beyond its reservations
abbrev pub short_of : ℤ → List Act → Booking → ℕ
short_of first acts b = need acts (item_postings first acts b.item) b - reserved_for b.act (plan first acts b.item)

-- the short quantities of an order's lines together
abbrev pub short_of_order : ℤ → List Act → List ℕ → ℕ
short_of_order first acts o = total (λ b. short_of first acts b) (filter (λ b. same_text o b.order) (flat_map (λ l. bookings acts l.gtin) (lines_of acts o)))

-- ordered less shipped, over the open orders of an item
abbrev pub open_units : ℤ → List Act → List ℕ → ℕ
open_units first acts g = total (λ b. if is_open first acts b.order then b.ordered - shipped_of first acts b.order b.item else 0) (bookings acts g)
