-- Lists of which one answer shows a page: the open orders, the items, the lots that expire, the lots in a bin.
use Rattle.std.specs.Prelude.{ℕ, ◌==◌, Bool, true, false, not, ◌&&◌, ◌||◌, nat_lt, if◌then◌else◌, List, [], ◌++◌, length, map, filter, reverse, take, Option, Some, None, ℤ, int_lt}
use Rattle.commands.specs.Lists.{total, in_order}
use Rattle.commands.specs.declared.command.NewBin.{NewBin}
use Rattle.commands.specs.declared.command.NewItem.{NewItem}
use Rattle.commands.specs.declared.command.OrderLine.{OrderLine}
use Rattle.overviews.specs.declared.lists.TheConstants.{PAGE_MAX, NAMES_MAX}
use Rattle.commands.specs.declared.rows.ItemRow.{ItemRow}
use Rattle.commands.specs.declared.rows.OrderClass.TheVariants.{Normal, Urgent}
use Rattle.overviews.specs.declared.lists.BinLot.{BinLot}
use Rattle.overviews.specs.declared.lists.BinView.{BinView}
use Rattle.overviews.specs.declared.lists.ExpiringView.{ExpiringView}
use Rattle.overviews.specs.declared.lists.ItemLot.{ItemLot}
use Rattle.overviews.specs.declared.lists.ItemNamesView.{ItemNamesView}
use Rattle.overviews.specs.declared.lists.NamedItem.{NamedItem}
use Rattle.overviews.specs.declared.lists.OpenOrder.{OpenOrder}
use Rattle.overviews.specs.declared.lists.OpenOrdersView.{OpenOrdersView}
use Rattle.plan.specs.Overlap.{reserved_for}
use Rattle.machine.specs.Acts.{Act}
use Rattle.machine.specs.Standing.{KnownLot, Placed, item_named, items, least_days, lots, orders}
use Rattle.machine.specs.Planning.{booking_of, goes_before, in_bin, is_normal, is_open, is_urgent, item_postings, plan, shipped_of, short_of, staged}
use Rattle.machine.specs.Cards.{lot_units_in_house}
use Rattle.machine.specs.Views.{lot_status, lot_view, text_before}

-- Pages

-- what one answer has of a list, and whether the list goes on behind it
abbrev pub page : {X : Type 0} → List X → List X
page xs = take PAGE_MAX xs

abbrev pub goes_on : {X : Type 0} → List X → Bool
goes_on xs = nat_lt PAGE_MAX (length xs)

-- what stands behind the one that was seen last, if any was
abbrev pub is_behind : {X : Type 0} → (X → X → Bool) → Option X → X → Bool
is_behind before None x = true
is_behind before (Some seen) x = before seen x

-- Open orders

-- those of a class, by act
abbrev pub orders_of : (Placed → Bool) → List Act → List Placed
orders_of class acts = reverse (filter class (orders acts))

-- in the order in which they are served: urgent orders, then the others
abbrev pub orders_served : List Act → List Placed
orders_served acts = orders_of is_urgent acts ++ orders_of is_normal acts

abbrev pub is_served_before : Placed → Placed → Bool
is_served_before p q = if p.urgent then (if q.urgent then nat_lt p.act q.act else true) else (if q.urgent then false else nat_lt p.act q.act)

-- the open ones behind the one that was seen last, which may be closed by now
abbrev pub open_orders : ℤ → List Act → Option Placed → List Placed
open_orders first acts seen = filter (λ p. is_open first acts p.order && is_behind is_served_before seen p) (orders_served acts)

-- with the units of all its lines together
abbrev pub open_order : ℤ → List Act → Placed → OpenOrder
open_order first acts p = record {
  class = if p.urgent then Urgent else Normal;
  customer = p.customer;
  order = p.order;
  ordered = total (λ (l : OrderLine). l.qty) p.lines;
  reserved = total (λ (l : OrderLine). reserved_for p.act (plan first acts l.gtin)) p.lines;
  shipped = total (λ (l : OrderLine). shipped_of first acts p.order l.gtin) p.lines;
  short = total (λ (l : OrderLine). short_of first acts (booking_of p l)) p.lines;
  staged = total (λ (l : OrderLine). staged (item_postings first acts l.gtin) p.order l.gtin) p.lines;
}

abbrev pub open_orders_view : ℤ → List Act → Option Placed → OpenOrdersView
open_orders_view first acts seen = record {
  act = length acts;
  orders = map (open_order first acts) (page (open_orders first acts seen));
  more = goes_on (open_orders first acts seen);
}

-- Items

-- by GTIN
abbrev pub gtin_before : NewItem → NewItem → Bool
gtin_before i j = text_before i.gtin j.gtin

abbrev pub items_behind : List Act → Option NewItem → List NewItem
items_behind acts seen = filter (λ i. is_behind gtin_before seen i) (in_order gtin_before (items acts))

abbrev pub named_item : List Act → NewItem → NamedItem
named_item acts i = record { item = record { gtin = i.gtin; name = i.name }; least = least_days acts i.gtin }

abbrev pub item_names_view : List Act → Option NewItem → ItemNamesView
item_names_view acts seen = record {
  act = length acts;
  items = map (named_item acts) (take NAMES_MAX (items_behind acts seen));
  more = nat_lt NAMES_MAX (length (items_behind acts seen));
}

-- Lots that expire

abbrev pub name_of : Option NewItem → List ℕ
name_of None = []
name_of (Some i) = i.name

abbrev pub item_of : List Act → List ℕ → ItemRow
item_of acts g = record { gtin = g; name = name_of (item_named acts g) }

-- it is past its expiry once the day is over, and has units in bins or on stages
abbrev pub is_expiring : ℤ → List Act → ℤ → KnownLot → Bool
is_expiring first acts day k = not (int_lt day k.expiry) && not (lot_units_in_house first acts k.lot == 0)

-- the lots of all items, by expiry and then by first receipt
abbrev pub lots_by_expiry : List Act → List KnownLot
lots_by_expiry acts = in_order goes_before (lots acts)

abbrev pub expiring_lots : ℤ → List Act → ℤ → Option KnownLot → List KnownLot
expiring_lots first acts day seen = filter (λ k. is_behind goes_before seen k && is_expiring first acts day k) (lots_by_expiry acts)

abbrev pub item_lot : ℤ → List Act → KnownLot → ItemLot
item_lot first acts k = record { item = item_of acts k.lot.gtin; lot = lot_view first acts k }

abbrev pub expiring_view : ℤ → List Act → ℤ → Option KnownLot → ExpiringView
expiring_view first acts day seen = record {
  act = length acts;
  lots = map (item_lot first acts) (page (expiring_lots first acts day seen));
  more = goes_on (expiring_lots first acts day seen);
}

-- Lots in a bin

-- by item, and then by expiry and by first receipt
abbrev pub goes_before_by_item : KnownLot → KnownLot → Bool
goes_before_by_item k m = text_before k.lot.gtin m.lot.gtin || (not (text_before m.lot.gtin k.lot.gtin) && goes_before k m)

-- the lots of all items, by item
abbrev pub lots_by_item : List Act → List KnownLot
lots_by_item acts = in_order goes_before_by_item (lots acts)

-- those with units in the bin behind the one that was seen last, which may have none there any more
abbrev pub lots_in_bin : ℤ → List Act → List ℕ → Option KnownLot → List KnownLot
lots_in_bin first acts b seen = filter (λ k. is_behind goes_before_by_item seen k && not (in_bin first acts b k.lot == 0)) (lots_by_item acts)

abbrev pub bin_lot : ℤ → List Act → List ℕ → KnownLot → BinLot
bin_lot first acts b k = record {
  item = item_of acts k.lot.gtin;
  lot = k.lot.lot;
  expiry = k.expiry;
  qty = in_bin first acts b k.lot;
  status = lot_status first acts k;
}

abbrev pub bin_view : ℤ → List Act → NewBin → Option KnownLot → BinView
bin_view first acts bin seen = record {
  act = length acts;
  bin = bin.bin;
  kind = bin.kind;
  lots = map (bin_lot first acts bin.bin) (page (lots_in_bin first acts bin.bin seen));
  more = goes_on (lots_in_bin first acts bin.bin seen);
}
