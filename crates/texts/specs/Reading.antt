-- What the fields of a text are read as. Nothing is refused here that a spelling cannot show: what is read is spelled again.
use Rattle.std.specs.Prelude.{ℕ, ◌+◌, nat_le, if◌then◌else◌, ℤ, pos, neg_ℤ, List, [], ◌∷◌, length, drop, codes, Option, Some, None, slice_get, option_map, option_and_then}
use Rattle.std.specs.Option.{unwrap_or}
use Rattle.std.specs.Str.{bytes_eq}
use Rattle.values.specs.Values.{checked, same_text, first_is, is_counted, is_delta, is_gtin, is_line_no, is_lot_text, is_name, is_qty, is_title, is_least_days, number_from}
use Rattle.values.specs.declared.lot.LotId.{LotId}
use Rattle.label.specs.Days.{is_business_day, parsed_day}
use Rattle.commands.specs.Limits.{has_order_lines}
use Rattle.commands.specs.Words.{bin_kind_of}
use Rattle.commands.specs.Spelling.{key_text}
use Rattle.commands.specs.declared.key.Key.{Key}
use Rattle.commands.specs.declared.key.Key.TheVariants.{Plain, Line}
use Rattle.commands.specs.declared.command.NewOrder.{NewOrder}
use Rattle.commands.specs.declared.command.OrderLine.{OrderLine}
use Rattle.commands.specs.declared.command.Picking.{Picking}
use Rattle.commands.specs.declared.command.Command.{Command}
use Rattle.commands.specs.declared.command.Command.TheVariants.{Item, Bin, Receive, Move, Count, Adjust, Order, Cancel, Pick, Unpick, Ship, Hold, Release, Recall, OpenDay, Least, Urgent}

-- the fields of a text, each the list of its bytes
abbrev pub Fields : Type 0
Fields = List (List ℕ)

-- the field at a place, and no bytes where there is none: no rule of a value lets these pass
abbrev pub field_at : ℕ → Fields → List ℕ
field_at i f = unwrap_or (slice_get f i) []

-- Values

-- no number of a command has more than 7 digits
abbrev pub number_read : List ℕ → Option ℕ
number_read s = if nat_le (length s) 7 then Some (number_from 0 s) else None

abbrev pub qty_read : List ℕ → Option ℕ
qty_read s = option_and_then (checked is_qty) (number_read s)

abbrev pub counted_read : List ℕ → Option ℕ
counted_read s = option_and_then (checked is_counted) (number_read s)

abbrev pub least_days_read : List ℕ → Option ℕ
least_days_read s = option_and_then (checked is_least_days) (number_read s)

abbrev pub line_no_read : List ℕ → Option ℕ
line_no_read s = option_and_then (checked is_line_no) (number_read s)

abbrev pub rise_read : List ℕ → Option ℤ
rise_read s = option_and_then (λ n. checked is_delta (pos n)) (number_read s)

abbrev pub fall_read : List ℕ → Option ℤ
fall_read s = option_and_then (λ n. checked is_delta (neg_ℤ (pos n))) (number_read s)

-- with `-` where units go
abbrev pub delta_read : List ℕ → Option ℤ
delta_read s = if first_is 45 s then fall_read (drop 1 s) else rise_read s

abbrev pub business_day_read : List ℕ → Option ℤ
business_day_read s = option_and_then (checked is_business_day) (parsed_day s)

-- the GTIN at a place, and the lot behind it
abbrev pub lot_read : ℕ → Fields → Option LotId
lot_read i f =
    option_and_then (λ gtin. option_map (λ lot. record { gtin = gtin; lot = lot })
    (checked is_lot_text (field_at (i + 1) f))) (checked is_gtin (field_at i f))

abbrev pub line_read : List ℕ → List ℕ → Option OrderLine
line_read g q = option_and_then (λ gtin. option_map (λ qty. record { gtin = gtin; qty = qty }) (qty_read q)) (checked is_gtin g)

abbrev pub line_at : ℕ → Fields → Option OrderLine
line_at i f = line_read (field_at i f) (field_at (i + 1) f)

-- a GTIN and a quantity in turn
abbrev pub lines_read : Fields → Option (List OrderLine)
lines_read [] = Some []
lines_read (g ∷ []) = option_map (λ line. line ∷ []) (line_read g [])
lines_read (g ∷ q ∷ rest) = option_and_then (λ line. option_map (λ lines. line ∷ lines) (lines_read rest)) (line_read g q)

-- Commands, of which the word is the field at 0

abbrev pub item_read : Fields → Option Command
item_read f =
    option_and_then (λ gtin. option_map (λ name. Item (record { gtin = gtin; name = name }))
    (checked is_title (field_at 2 f))) (checked is_gtin (field_at 1 f))

abbrev pub bin_read : Fields → Option Command
bin_read f =
    option_and_then (λ bin. option_map (λ kind. Bin (record { bin = bin; kind = kind }))
    (bin_kind_of (field_at 2 f))) (checked is_name (field_at 1 f))

abbrev pub receipt_read : Fields → Option Command
receipt_read f =
    option_and_then (λ lot. option_and_then (λ expiry. option_and_then (λ bin. option_map (λ qty.
    Receive (record { lot = lot; expiry = expiry; bin = bin; qty = qty }))
    (qty_read (field_at 5 f))) (checked is_name (field_at 4 f))) (parsed_day (field_at 3 f))) (lot_read 1 f)

abbrev pub movement_read : Fields → Option Command
movement_read f =
    option_and_then (λ lot. option_and_then (λ from. option_and_then (λ to. option_map (λ qty.
    Move (record { lot = lot; from = from; to = to; qty = qty }))
    (qty_read (field_at 5 f))) (checked is_name (field_at 4 f))) (checked is_name (field_at 3 f))) (lot_read 1 f)

abbrev pub recount_read : Fields → Option Command
recount_read f =
    option_and_then (λ lot. option_and_then (λ bin. option_map (λ qty.
    Count (record { lot = lot; bin = bin; qty = qty }))
    (counted_read (field_at 4 f))) (checked is_name (field_at 3 f))) (lot_read 1 f)

abbrev pub adjustment_read : Fields → Option Command
adjustment_read f =
    option_and_then (λ lot. option_and_then (λ bin. option_map (λ change.
    Adjust (record { lot = lot; bin = bin; change = change }))
    (delta_read (field_at 4 f))) (checked is_name (field_at 3 f))) (lot_read 1 f)

abbrev pub order_read : Fields → Option NewOrder
order_read f =
    option_and_then (λ order. option_and_then (λ customer. option_map (λ lines.
    record { order = order; customer = customer; lines = lines })
    (option_and_then (checked has_order_lines) (lines_read (drop 3 f)))) (checked is_title (field_at 2 f))) (checked is_name (field_at 1 f))

abbrev pub least_read : Fields → Option Command
least_read f =
    option_and_then (λ gtin. option_map (λ days.
    Least (record { gtin = gtin; days = days }))
    (least_days_read (field_at 2 f))) (checked is_gtin (field_at 1 f))

abbrev pub picking_read : Fields → Option Picking
picking_read f =
    option_and_then (λ order. option_and_then (λ lot. option_and_then (λ bin. option_map (λ qty.
    record { order = order; lot = lot; bin = bin; qty = qty })
    (qty_read (field_at 5 f))) (checked is_name (field_at 4 f))) (lot_read 2 f)) (checked is_name (field_at 1 f))

-- by the word

abbrev pub lot_command_read : List ℕ → Fields → Option Command
lot_command_read w f =
    if same_text w (codes "HOLD") then option_map Hold (lot_read 1 f)
    else (if same_text w (codes "RELEASE") then option_map Release (lot_read 1 f)
    else (if same_text w (codes "RECALL") then option_map Recall (lot_read 1 f)
    else (if same_text w (codes "OPENDAY") then option_map OpenDay (business_day_read (field_at 1 f))
    else None)))

abbrev pub shipping_command_read : List ℕ → Fields → Option Command
shipping_command_read w f =
    if same_text w (codes "CANCEL") then option_map Cancel (checked is_name (field_at 1 f))
    else (if same_text w (codes "PICK") then option_map Pick (picking_read f)
    else (if same_text w (codes "UNPICK") then option_map Unpick (picking_read f)
    else (if same_text w (codes "SHIP") then option_map Ship (checked is_name (field_at 1 f))
    else lot_command_read w f)))

abbrev pub stock_command_read : List ℕ → Fields → Option Command
stock_command_read w f =
    if same_text w (codes "RECEIVE") then receipt_read f
    else (if same_text w (codes "MOVE") then movement_read f
    else (if same_text w (codes "COUNT") then recount_read f
    else (if same_text w (codes "ADJUST") then adjustment_read f
    else shipping_command_read w f)))

abbrev pub plain_command_read : List ℕ → Fields → Option Command
plain_command_read w f =
    if same_text w (codes "ITEM") then item_read f
    else (if same_text w (codes "BIN") then bin_read f
    else (if same_text w (codes "LEAST") then least_read f
    else stock_command_read w f))

unfoldable pub command_read : Fields → Option Command
command_read f =
    if same_text (field_at 0 f) (codes "ORDER") then option_map Order (order_read f)
    else (if same_text (field_at 0 f) (codes "URGENT") then option_map Urgent (order_read f)
    else plain_command_read (field_at 0 f) f)

-- the key, if the text is its own
abbrev pub own_key : List ℕ → Key → Option Key
own_key text key = if bytes_eq (key_text key) text then Some key else None

-- Keys: `K` and a name, or `D`, a delivery and a line
unfoldable pub key_read : Fields → Option Key
key_read f =
    if same_text (field_at 0 f) (codes "K") then option_map Plain (checked is_name (field_at 1 f))
    else option_and_then (λ delivery. option_map (Line delivery) (line_no_read (field_at 2 f))) (checked is_name (field_at 1 f))
