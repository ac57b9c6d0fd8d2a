-- What the acts make known of items, bins, lots, orders and days.
use Rattle.std.specs.Prelude.{ℕ, ◌+◌, Bool, true, false, not, ◌&&◌, if◌then◌else◌, List, [], ◌∷◌, ◌++◌, length, codes, find, filter, Option, Some, None, is_some, ℤ, pos, int_lt, ◌+ℤ◌}
use Rattle.std.specs.List.{list_any}
use Rattle.machine.specs.Words.{same_text, LotId, OrderLine, Command, Item, Bin, Receive, Order, Cancel, Ship, Hold, Release, Recall, OpenDay, Least, Urgent, ShipmentRow}
use Rattle.commands.specs.declared.command.BinKind.{BinKind}
use Rattle.commands.specs.declared.command.BinKind.TheVariants.{Store, Hold as HoldBin}
use Rattle.commands.specs.declared.command.NewItem.{NewItem}
use Rattle.commands.specs.declared.command.NewBin.{NewBin}
use Rattle.commands.specs.declared.command.NewLeast.{NewLeast}
use Rattle.commands.specs.declared.command.Receipt.{Receipt}
use Rattle.machine.specs.Acts.{Act, gathered, next_number}
use Rattle.machine.specs.Postings.{is_lot, of_item}

-- Items

-- the item that a command makes known
abbrev pub item_in : ℕ → Command → Option NewItem
item_in n (Item i) = Some i
item_in n _ = None

abbrev pub items : List Act → List NewItem
items = gathered item_in

abbrev pub item_named : List Act → List ℕ → Option NewItem
item_named acts g = find (λ i. same_text g i.gtin) (items acts)

-- the item is known
abbrev pub has_item : List Act → List ℕ → Bool
has_item acts g = is_some (item_named acts g)

-- Bins. RETURNS is there from the start, and is a HOLD bin.

abbrev pub RETURNS : List ℕ
RETURNS = codes "RETURNS"

abbrev pub bin_in : ℕ → Command → Option NewBin
bin_in n (Bin b) = Some b
bin_in n _ = None

abbrev pub returns_bin : NewBin
returns_bin = record { bin = RETURNS; kind = HoldBin }

abbrev pub bins : List Act → List NewBin
bins acts = gathered bin_in acts ++ returns_bin ∷ []

abbrev pub bin_named : List Act → List ℕ → Option NewBin
bin_named acts b = find (λ x. same_text b x.bin) (bins acts)

-- the bin is known
abbrev pub has_bin : List Act → List ℕ → Bool
has_bin acts b = is_some (bin_named acts b)

abbrev pub is_store_kind : BinKind → Bool
is_store_kind Store = true
is_store_kind HoldBin = false

abbrev pub is_store_row : Option NewBin → Bool
is_store_row None = false
is_store_row (Some b) = is_store_kind b.kind

abbrev pub is_store_bin : List Act → List ℕ → Bool
is_store_bin acts b = is_store_row (bin_named acts b)

-- Lots. A lot is known once it is received; its first receipt gives its expiry and its rank.

-- a known lot, its expiry, and the number of the act that received it first
pub record KnownLot : Type 0 where
  pub lot : LotId
  pub expiry : ℤ
  pub came : ℕ

abbrev pub lot_among : LotId → List KnownLot → Option KnownLot
lot_among l lots = find (λ k. is_lot l k.lot) lots

-- a receipt of a lot that is known already changes nothing
abbrev pub with_receipt : ℕ → Receipt → List KnownLot → List KnownLot
with_receipt n r lots = if is_some (lot_among r.lot lots) then lots else record { lot = r.lot; expiry = r.expiry; came = n } ∷ lots

abbrev pub lots_after : ℕ → Command → List KnownLot → List KnownLot
lots_after n (Receive r) lots = with_receipt n r lots
lots_after n _ lots = lots

-- the known lots, the newest first
abbrev pub lots : List Act → List KnownLot
lots [] = []
lots (act ∷ before) = lots_after (next_number before) act.command (lots before)

abbrev pub lot_known : List Act → LotId → Option KnownLot
lot_known acts l = lot_among l (lots acts)

abbrev pub has_lot : List Act → LotId → Bool
has_lot acts l = is_some (lot_known acts l)

-- those of an item
abbrev pub lots_of : List Act → List ℕ → List KnownLot
lots_of acts g = filter (λ k. of_item g k.lot) (lots acts)

-- Held: the last Hold or Release of the lot is a Hold. Recalled: any Recall names it.

-- what a command says of a lot: that it is held, or that it is not
pub record Holding : Type 0 where
  pub lot : LotId
  pub held : Bool

abbrev pub hold_in : ℕ → Command → Option Holding
hold_in n (Hold l) = Some (record { lot = l; held = true })
hold_in n (Release l) = Some (record { lot = l; held = false })
hold_in n _ = None

abbrev pub says_held : Option Holding → Bool
says_held None = false
says_held (Some w) = w.held

abbrev pub is_held : List Act → LotId → Bool
is_held acts l = says_held (find (λ w. is_lot l w.lot) (gathered hold_in acts))

-- a recall of a lot, with its act
pub record Recalling : Type 0 where
  pub lot : LotId
  pub act : ℕ

abbrev pub recall_in : ℕ → Command → Option Recalling
recall_in n (Recall l) = Some (record { lot = l; act = n })
recall_in n _ = None

abbrev pub recalling : List Act → LotId → Option Recalling
recalling acts l = find (λ r. is_lot l r.lot) (gathered recall_in acts)

abbrev pub is_recalled : List Act → LotId → Bool
is_recalled acts l = is_some (recalling acts l)

-- Days

abbrev pub day_after_command : Command → ℤ → ℤ
day_after_command (OpenDay day) last = day
day_after_command _ last = last

-- the business day: that of the last OpenDay, otherwise the starting day
abbrev pub today : ℤ → List Act → ℤ
today first [] = first
today first (act ∷ before) = day_after_command act.command (today first before)

-- a lot may ship on its expiry day
abbrev pub is_expired : ℤ → ℤ → Bool
is_expired day expiry = int_lt expiry day

-- Days left. An item asks for 0 days until a Least names it.

abbrev pub least_in : ℕ → Command → Option NewLeast
least_in n (Least l) = Some l
least_in n _ = None

abbrev pub days_asked : Option NewLeast → ℕ
days_asked None = 0
days_asked (Some l) = l.days

-- the days that the last Least of the item says
abbrev pub least_days : List Act → List ℕ → ℕ
least_days acts g = days_asked (find (λ l. same_text g l.gtin) (gathered least_in acts))

-- the earliest expiry that a lot of the item must have: the business day and so many days more
abbrev pub least_expiry : ℤ → List Act → List ℕ → ℤ
least_expiry first acts g = today first acts +ℤ pos (least_days acts g)

-- not expired, but with fewer days left
abbrev pub is_short_dated : ℤ → ℕ → ℤ → Bool
is_short_dated day days expiry = not (is_expired day expiry) && is_expired (day +ℤ pos days) expiry

-- known, not held, not recalled, with as many days left as its item asks for
abbrev pub is_shippable : ℤ → List Act → KnownLot → Bool
is_shippable first acts k =
    not (is_held acts k.lot) && not (is_recalled acts k.lot) && not (is_expired (least_expiry first acts k.lot.gtin) k.expiry)

-- Orders. A booking is one order line.

-- an order, with its act and its lines
pub record Placed : Type 0 where
  pub order : List ℕ
  pub act : ℕ
  pub customer : List ℕ
  pub lines : List OrderLine
  pub urgent : Bool

abbrev pub order_in : ℕ → Command → Option Placed
order_in n (Order o) = Some (record { order = o.order; act = n; customer = o.customer; lines = o.lines; urgent = false })
order_in n (Urgent o) = Some (record { order = o.order; act = n; customer = o.customer; lines = o.lines; urgent = true })
order_in n _ = None

abbrev pub orders : List Act → List Placed
orders = gathered order_in

abbrev pub order_named : List Act → List ℕ → Option Placed
order_named acts o = find (λ p. same_text o p.order) (orders acts)

abbrev pub has_order : List Act → List ℕ → Bool
has_order acts o = is_some (order_named acts o)

abbrev pub lines_placed : Option Placed → List OrderLine
lines_placed None = []
lines_placed (Some p) = p.lines

abbrev pub lines_of : List Act → List ℕ → List OrderLine
lines_of acts o = lines_placed (order_named acts o)

-- the order is known and has a line of the item
abbrev pub has_line : List Act → List ℕ → List ℕ → Bool
has_line acts o g = list_any (λ l. same_text g l.gtin) (lines_of acts o)

abbrev pub cancel_in : ℕ → Command → Option (List ℕ)
cancel_in n (Cancel o) = Some o
cancel_in n _ = None

abbrev pub is_cancelled : List Act → List ℕ → Bool
is_cancelled acts o = list_any (same_text o) (gathered cancel_in acts)

-- the shipments, the newest first, numbered from 1
abbrev pub shipments_after : ℤ → List Act → Command → List ShipmentRow → List ShipmentRow
shipments_after first before (Ship o) past =
    record { number = length past + 1; act = next_number before; day = today first before; order = o } ∷ past
shipments_after first before _ past = past

abbrev pub shipments : ℤ → List Act → List ShipmentRow
shipments first [] = []
shipments first (act ∷ before) = shipments_after first before act.command (shipments first before)

abbrev pub shipments_so_far : ℤ → List Act → ℕ
shipments_so_far first acts = length (shipments first acts)
