-- The bodies of the requests: which fields each has, and what it asks. Step 9 of `Requests`.
use Rattle.std.specs.Prelude.{ℕ, ℤ, List, [], ◌∷◌, codes, if◌then◌else◌, Option, Some, None, option_map, option_and_then}
use Rattle.values.specs.Values.{checked}
use Rattle.values.specs.declared.lot.LotId.{LotId}
use Rattle.commands.specs.Limits.{has_order_lines}
use Rattle.commands.specs.declared.key.Key.TheVariants.{Plain}
use Rattle.commands.specs.declared.command.NewItem.{NewItem}
use Rattle.commands.specs.declared.command.NewBin.{NewBin}
use Rattle.commands.specs.declared.command.Movement.{Movement}
use Rattle.commands.specs.declared.command.Recount.{Recount}
use Rattle.commands.specs.declared.command.Adjustment.{Adjustment}
use Rattle.commands.specs.declared.command.NewLeast.{NewLeast}
use Rattle.commands.specs.declared.command.NewOrder.{NewOrder}
use Rattle.commands.specs.declared.command.OrderLine.{OrderLine}
use Rattle.commands.specs.declared.command.Picking.{Picking}
use Rattle.commands.specs.declared.command.Command.{Command}
use Rattle.commands.specs.declared.command.Command.TheVariants.{Item, Bin, Move, Count, Adjust, Order, Cancel, Pick, Unpick, Ship, Hold, Release, Recall, OpenDay, Least, Urgent}
use Rattle.serde_json.specs.Data.{Data, Items, no_items, item}
use Rattle.serde_json.specs.Find.{get, as_array}
use Rattle.requests.specs.Fields.{is_object_of, text_at, name_at, title_at, gtin_at, qty_at, counted_at, delta_at, line_at, business_day_at, kind_at, lot_id_at, least_days_at}
use Rattle.requests.specs.declared.routes.Posted.{Posted}
use Rattle.requests.specs.declared.routes.Posted.TheVariants.{Items as ToItems, Bins, Receipts, Moves, Counts, Adjustments, Orders, Cancels, Picks, Unpicks, Shipments, Holds, Releases, Recalls, Days, Leasts, Urgents, GoodsIn as ToGoodsIn}
use Rattle.requests.specs.declared.ask.Ask.{Ask}
use Rattle.requests.specs.declared.ask.Ask.TheVariants.{Do, Scan}

-- beside the key: gtin, name
abbrev pub item_of : Data → Option NewItem
item_of d =
    if is_object_of 3 d then
    option_and_then (λ gtin. option_map (λ name. record { gtin = gtin; name = name })
    (title_at (codes "name") d)) (gtin_at (codes "gtin") d)
    else None

-- beside the key: bin, kind
abbrev pub bin_of : Data → Option NewBin
bin_of d =
    if is_object_of 3 d then
    option_and_then (λ bin. option_map (λ kind. record { bin = bin; kind = kind })
    (kind_at (codes "kind") d)) (name_at (codes "bin") d)
    else None

-- beside the key: gtin, lot, from, to, qty
abbrev pub move_of : Data → Option Movement
move_of d =
    if is_object_of 6 d then
    option_and_then (λ lot. option_and_then (λ from. option_and_then (λ to. option_map (λ qty.
    record { lot = lot; from = from; to = to; qty = qty })
    (qty_at (codes "qty") d)) (name_at (codes "to") d)) (name_at (codes "from") d)) (lot_id_at d)
    else None

-- beside the key: gtin, lot, bin, qty
abbrev pub count_of : Data → Option Recount
count_of d =
    if is_object_of 5 d then
    option_and_then (λ lot. option_and_then (λ bin. option_map (λ qty.
    record { lot = lot; bin = bin; qty = qty })
    (counted_at (codes "qty") d)) (name_at (codes "bin") d)) (lot_id_at d)
    else None

-- beside the key: gtin, lot, bin, change
abbrev pub adjustment_of : Data → Option Adjustment
adjustment_of d =
    if is_object_of 5 d then
    option_and_then (λ lot. option_and_then (λ bin. option_map (λ change.
    record { lot = lot; bin = bin; change = change })
    (delta_at (codes "change") d)) (name_at (codes "bin") d)) (lot_id_at d)
    else None

-- beside the key: day
abbrev pub day_of : Data → Option ℤ
day_of d = if is_object_of 2 d then business_day_at (codes "day") d else None

-- beside the key: gtin, days
abbrev pub least_of : Data → Option NewLeast
least_of d =
    if is_object_of 3 d then
    option_and_then (λ gtin. option_map (λ days. record { gtin = gtin; days = days })
    (least_days_at (codes "days") d)) (gtin_at (codes "gtin") d)
    else None

-- beside the key: gtin, lot
abbrev pub lot_of : Data → Option LotId
lot_of d = if is_object_of 3 d then lot_id_at d else None

-- beside the key: order
abbrev pub order_of : Data → Option (List ℕ)
order_of d = if is_object_of 2 d then name_at (codes "order") d else None

-- beside the key: order, gtin, lot, bin, qty
abbrev pub picking_of : Data → Option Picking
picking_of d =
    if is_object_of 6 d then
    option_and_then (λ order. option_and_then (λ lot. option_and_then (λ bin. option_map (λ qty.
    record { order = order; lot = lot; bin = bin; qty = qty })
    (qty_at (codes "qty") d)) (name_at (codes "bin") d)) (lot_id_at d)) (name_at (codes "order") d)
    else None

-- delivery, line, label, bin, qty
abbrev pub scan_of : Data → Option Ask
scan_of d =
    if is_object_of 5 d then
    option_and_then (λ delivery. option_and_then (λ line. option_and_then (λ label. option_and_then (λ bin. option_map (λ qty.
    Scan delivery line label bin qty)
    (qty_at (codes "qty") d)) (name_at (codes "bin") d)) (text_at (codes "label") d)) (line_at (codes "line") d))
    (name_at (codes "delivery") d)
    else None

-- gtin, qty
abbrev pub line_of : Data → Option OrderLine
line_of d =
    if is_object_of 2 d then
    option_and_then (λ gtin. option_map (λ qty. record { gtin = gtin; qty = qty }) (qty_at (codes "qty") d))
    (gtin_at (codes "gtin") d)
    else None

-- each item as a line, if each is one
abbrev pub lines_of : Items → Option (List OrderLine)
lines_of no_items = Some []
lines_of (item d ds) = option_and_then (λ l. option_map (λ ls. l ∷ ls) (lines_of ds)) (line_of d)

-- a list of 1 to 200 lines
abbrev pub lines_at : List ℕ → Data → Option (List OrderLine)
lines_at name d =
    option_and_then (checked has_order_lines) (option_and_then lines_of (option_and_then as_array (get name d)))

-- beside the key: order, customer, lines
abbrev pub new_order_of : Data → Option NewOrder
new_order_of d =
    if is_object_of 4 d then
    option_and_then (λ order. option_and_then (λ customer. option_map (λ lines.
    record { order = order; customer = customer; lines = lines })
    (lines_at (codes "lines") d)) (title_at (codes "customer") d)) (name_at (codes "order") d)
    else None

-- the command of a route that bears a key
abbrev pub command_of : Posted → Data → Option Command
command_of ToItems d = option_map Item (item_of d)
command_of Bins d = option_map Bin (bin_of d)
command_of Receipts d = None  -- a receipt bears a delivery and a line
command_of Moves d = option_map Move (move_of d)
command_of Counts d = option_map Count (count_of d)
command_of Adjustments d = option_map Adjust (adjustment_of d)
command_of Orders d = option_map Order (new_order_of d)
command_of Cancels d = option_map Cancel (order_of d)
command_of Picks d = option_map Pick (picking_of d)
command_of Unpicks d = option_map Unpick (picking_of d)
command_of Shipments d = option_map Ship (order_of d)
command_of Holds d = option_map Hold (lot_of d)
command_of Releases d = option_map Release (lot_of d)
command_of Recalls d = option_map Recall (lot_of d)
command_of Days d = option_map OpenDay (day_of d)
command_of Leasts d = option_map Least (least_of d)
command_of Urgents d = option_map Urgent (new_order_of d)
command_of ToGoodsIn d = None  -- a file is no JSON

-- step 9: what a value posted to a route asks, where it has exactly the fields of that route
abbrev pub body_of : Posted → Data → Option Ask
body_of Receipts d = scan_of d
body_of posted d = option_and_then (λ key. option_map (Do (Plain key)) (command_of posted d)) (name_at (codes "key") d)
