-- The records that queries answer.
use Rattle.std.specs.Prelude.{ℕ, Bool, not, ◌==◌, if◌then◌else◌, List, [], map, filter, reverse, Option, Some, None, option_map, ℤ}
use Rattle.std.specs.Ordering.{nat_cmp, is_lt}
use Rattle.std.specs.Cmp.Lexicographic.{slice_cmp}
use Rattle.machine.specs.Words.{same_text, LotId, total, in_order, ItemRow, ShipmentRow, NoticeView, CardView, CardRow, OrderLine, OrderView, StockView, ShortView}
use Rattle.commands.specs.declared.views.BinUnits.{BinUnits}
use Rattle.commands.specs.declared.views.ShippedUnits.{ShippedUnits}
use Rattle.commands.specs.declared.views.ReservedLot.{ReservedLot}
use Rattle.commands.specs.declared.views.StagedLot.{StagedLot}
use Rattle.commands.specs.declared.views.LineView.{LineView}
use Rattle.commands.specs.declared.rows.OrderClass.TheVariants.{Normal, Urgent}
use Rattle.commands.specs.declared.views.LotStatus.{LotStatus}
use Rattle.commands.specs.declared.views.LotStatus.TheVariants.{Recalled, Held, Expired, ShortDated, Free}
use Rattle.commands.specs.declared.views.LotView.{LotView}
use Rattle.commands.specs.declared.views.ShortLine.{ShortLine}
use Rattle.machine.specs.Acts.{Act}
use Rattle.machine.specs.Postings.{balance, is_lot, is_shipment}
use Rattle.machine.specs.Standing.{is_held, is_recalled, is_expired, is_short_dated, least_days, today, lots_of, is_store_bin, orders, Placed, KnownLot, bins, shipments, order_named, lot_known}
use Rattle.machine.specs.Ledger.{postings}
use Rattle.machine.specs.Planning.{in_bin, staged_of_lot, shipped_of, reserved, goes_before, Booking, bookings, short_of, order_state}
use Rattle.machine.specs.Cards.{cards, lot_units_in_house}

-- names by their bytes
abbrev pub text_before : List ℕ → List ℕ → Bool
text_before a b = is_lt (slice_cmp nat_cmp a b)

abbrev pub has_bin_units : BinUnits → Bool
has_bin_units u = not (u.qty == 0)

-- the bins with units of the lot, by name
abbrev pub bins_of_lot : ℤ → List Act → LotId → List BinUnits
bins_of_lot first acts l =
    in_order (λ a b. text_before a.bin b.bin)
    (filter has_bin_units (map (λ b. record { bin = b.bin; qty = in_bin first acts b.bin l }) (bins acts)))

abbrev pub customer_of : Option Placed → List ℕ
customer_of None = []
customer_of (Some p) = p.customer

abbrev pub shipped_units : ℤ → List Act → LotId → ShipmentRow → ShippedUnits
shipped_units first acts l s = record {
  number = s.number;
  day = s.day;
  qty = balance (is_shipment s.number) (is_lot l) (postings first acts);
  order = s.order;
  customer = customer_of (order_named acts s.order);
}

abbrev pub has_shipped_units : ShippedUnits → Bool
has_shipped_units u = not (u.qty == 0)

-- the shipments with units of the lot, by number
abbrev pub shipments_of_lot : ℤ → List Act → LotId → List ShippedUnits
shipments_of_lot first acts l = filter has_shipped_units (map (shipped_units first acts l) (reverse (shipments first acts)))

abbrev pub notice_view : ℤ → List Act → ItemRow → LotId → NoticeView
notice_view first acts item l = record {
  item = item;
  lot = l.lot;
  expiry = option_map (λ k. k.expiry) (lot_known acts l);
  bins = bins_of_lot first acts l;
  shipments = shipments_of_lot first acts l;
}

-- the lines of the lot's card, by act
abbrev pub card_of_lot : ℤ → List Act → LotId → List CardRow
card_of_lot first acts l = reverse (filter (λ c. is_lot l c.lot) (cards first acts))

abbrev pub card_view : ℤ → List Act → ItemRow → KnownLot → CardView
card_view first acts item k = record {
  item = item;
  lot = k.lot.lot;
  expiry = k.expiry;
  lines = card_of_lot first acts k.lot;
  in_house = lot_units_in_house first acts k.lot;
}

-- Stock and orders. Lots stand by expiry, then by rank.

abbrev pub lots_in_order : List Act → List ℕ → List KnownLot
lots_in_order acts g = in_order goes_before (lots_of acts g)

-- recalled comes first, then held, then expired, then short-dated
abbrev pub lot_status : ℤ → List Act → KnownLot → LotStatus
lot_status first acts k =
    if is_recalled acts k.lot then Recalled
    else (if is_held acts k.lot then Held else (if is_expired (today first acts) k.expiry then Expired
    else (if is_short_dated (today first acts) (least_days acts k.lot.gtin) k.expiry then ShortDated else Free)))

abbrev pub reserved_on_lot : ℤ → List Act → LotId → ℕ
reserved_on_lot first acts l = total (λ o. reserved first acts o.order l) (orders acts)

abbrev pub staged_on_lot : ℤ → List Act → LotId → ℕ
staged_on_lot first acts l = total (λ o. staged_of_lot first acts o.order l) (orders acts)

abbrev pub lot_view : ℤ → List Act → KnownLot → LotView
lot_view first acts k = record {
  bins = bins_of_lot first acts k.lot;
  expiry = k.expiry;
  lot = k.lot.lot;
  reserved = reserved_on_lot first acts k.lot;
  staged = staged_on_lot first acts k.lot;
  status = lot_status first acts k;
}

abbrev pub stock_view : ℤ → List Act → ItemRow → StockView
stock_view first acts item = record { item = item; lots = map (lot_view first acts) (lots_in_order acts item.gtin) }

-- the STORE bins with units of the lot, by name
abbrev pub store_bins_of_lot : ℤ → List Act → LotId → List BinUnits
store_bins_of_lot first acts l = filter (λ u. is_store_bin acts u.bin) (bins_of_lot first acts l)

abbrev pub reserved_lots : ℤ → List Act → List ℕ → List ℕ → List ReservedLot
reserved_lots first acts o g =
    filter (λ r. not (r.qty == 0))
    (map (λ k. record { lot = k.lot.lot; expiry = k.expiry; qty = reserved first acts o k.lot; bins = store_bins_of_lot first acts k.lot }) (lots_in_order acts g))

abbrev pub staged_lots : ℤ → List Act → List ℕ → List ℕ → List StagedLot
staged_lots first acts o g =
    filter (λ r. not (r.qty == 0)) (map (λ k. record { lot = k.lot.lot; qty = staged_of_lot first acts o k.lot }) (lots_in_order acts g))

abbrev pub short_of_line : ℤ → List Act → List ℕ → List ℕ → ℕ
short_of_line first acts o g = total (λ b. if same_text o b.order then short_of first acts b else 0) (bookings acts g)

abbrev pub line_view : ℤ → List Act → List ℕ → OrderLine → LineView
line_view first acts o l = record {
  gtin = l.gtin;
  ordered = l.qty;
  reserved = reserved_lots first acts o l.gtin;
  shipped = shipped_of first acts o l.gtin;
  short = short_of_line first acts o l.gtin;
  staged = staged_lots first acts o l.gtin;
  least = least_days acts l.gtin;
}

-- lines in the order of their items
abbrev pub order_view : ℤ → List Act → Placed → OrderView
order_view first acts p = record {
  class = if p.urgent then Urgent else Normal;
  customer = p.customer;
  lines = map (line_view first acts p.order) (in_order (λ l m. text_before l.gtin m.gtin) p.lines);
  order = p.order;
  state = order_state first acts p.order;
}

abbrev pub short_line : ℤ → List Act → Booking → ShortLine
short_line first acts b = record { order = b.order; qty = short_of first acts b; customer = b.customer }

-- the bookings of the item that are short, in the order in which they are served
abbrev pub short_view : ℤ → List Act → ItemRow → ShortView
short_view first acts item = record { item = item; lines = filter (λ s. not (s.qty == 0)) (map (short_line first acts) (bookings acts item.gtin)) }
