-- The rows of the tables that the acts give.
use Rattle.std.specs.Prelude.{ℕ, ◌&&◌, ◌==◌, if◌then◌else◌, List, [], ◌∷◌, length, find, Option, Some, None, option_map, ℤ}
use Rattle.machine.specs.Words.{same_text, LotId, key_text, spelling, ItemRow, ShipmentRow, CardRow}
pub use Rattle.commands.specs.Tables.{Tables}
use Rattle.commands.specs.declared.rows.MetaRow.{MetaRow}
use Rattle.commands.specs.declared.rows.LeastRow.{LeastRow}
use Rattle.commands.specs.declared.rows.BinRow.{BinRow}
use Rattle.commands.specs.declared.rows.LotRow.{LotRow}
use Rattle.commands.specs.declared.rows.RecallRow.{RecallRow}
use Rattle.commands.specs.declared.rows.StockRow.{StockRow}
use Rattle.commands.specs.declared.rows.OrderRow.{OrderRow}
use Rattle.commands.specs.declared.rows.UrgentRow.{UrgentRow}
use Rattle.commands.specs.declared.rows.LineRow.{LineRow}
use Rattle.commands.specs.declared.rows.StagedRow.{StagedRow}
use Rattle.commands.specs.declared.rows.ReservedRow.{ReservedRow}
use Rattle.commands.specs.declared.rows.ShiplineRow.{ShiplineRow}
use Rattle.commands.specs.declared.rows.RepeatRow.{RepeatRow}
use Rattle.machine.specs.Acts.{Act, next_number}
use Rattle.machine.specs.Postings.{balance, is_lot, is_shipment}
use Rattle.machine.specs.Standing.{Placed, item_named, least_days, bin_named, lot_known, is_held, recalling, order_named, lines_of, shipments, shipments_so_far, today}
use Rattle.machine.specs.Ledger.{postings}
use Rattle.machine.specs.Planning.{in_bin, staged_of_lot, shipped_of, reserved, order_state}
use Rattle.machine.specs.Cards.{cards}
use Rattle.machine.specs.Replies.{reply}

-- a row of a quantity, where it is not 0
abbrev pub if_any : {X : Type 0} → ℕ → X → Option X
if_any q row = if q == 0 then None else Some row

-- Rows

abbrev pub item_row : List Act → List ℕ → Option ItemRow
item_row acts g = option_map (λ i. record { gtin = i.gtin; name = i.name }) (item_named acts g)

-- each item has one
abbrev pub least_row : List Act → List ℕ → Option LeastRow
least_row acts g = option_map (λ i. record { gtin = i.gtin; days = least_days acts i.gtin }) (item_named acts g)

abbrev pub bin_row : List Act → List ℕ → Option BinRow
bin_row acts b = option_map (λ x. record { name = x.bin; kind = x.kind }) (bin_named acts b)

abbrev pub lot_row : List Act → LotId → Option LotRow
lot_row acts l = option_map (λ k. record { lot = k.lot; expiry = k.expiry; came = k.came; held = is_held acts k.lot }) (lot_known acts l)

abbrev pub recall_row : List Act → LotId → Option RecallRow
recall_row acts l = option_map (λ r. record { lot = r.lot; act = r.act }) (recalling acts l)

abbrev pub stock_row : ℤ → List Act → LotId → List ℕ → Option StockRow
stock_row first acts l b = let q = in_bin first acts b l in if_any q (record { lot = l; bin = b; qty = q })

abbrev pub order_row : ℤ → List Act → List ℕ → Option OrderRow
order_row first acts o = option_map (λ p. record { order = p.order; act = p.act; customer = p.customer; state = order_state first acts p.order }) (order_named acts o)

abbrev pub if_urgent : Option Placed → Option UrgentRow
if_urgent None = None
if_urgent (Some p) = if p.urgent then Some (record { order = p.order; act = p.act }) else None

-- each urgent order has one
abbrev pub urgent_row : List Act → List ℕ → Option UrgentRow
urgent_row acts o = if_urgent (order_named acts o)

abbrev pub line_row : ℤ → List Act → List ℕ → List ℕ → Option LineRow
line_row first acts o g = option_map (λ l. record { order = o; gtin = g; ordered = l.qty; shipped = shipped_of first acts o g }) (find (λ l. same_text g l.gtin) (lines_of acts o))

abbrev pub staged_row : ℤ → List Act → List ℕ → LotId → Option StagedRow
staged_row first acts o l = let q = staged_of_lot first acts o l in if_any q (record { order = o; lot = l; qty = q })

abbrev pub reserved_row : ℤ → List Act → List ℕ → LotId → Option ReservedRow
reserved_row first acts o l = let q = reserved first acts o l in if_any q (record { order = o; lot = l; qty = q })

abbrev pub shipment_row : ℤ → List Act → ℕ → Option ShipmentRow
shipment_row first acts n = find (λ s. n == s.number) (shipments first acts)

abbrev pub shipline_row : ℤ → List Act → ℕ → LotId → Option ShiplineRow
shipline_row first acts n l = let q = balance (is_shipment n) (is_lot l) (postings first acts) in if_any q (record { number = n; lot = l; qty = q })

abbrev pub card_row : ℤ → List Act → LotId → ℕ → Option CardRow
card_row first acts l n = find (λ c. is_lot l c.lot && (n == c.act)) (cards first acts)

-- each act's key, command and answer
abbrev pub repeat_row : ℤ → List Act → List ℕ → Option RepeatRow
repeat_row first [] k = None
repeat_row first (act ∷ before) k =
    if same_text k (key_text act.key) then Some (record { k = key_text act.key; act = next_number before; spell = spelling act.command; reply = reply first act before })
    else repeat_row first before k

abbrev pub meta_row : ℤ → List Act → MetaRow
meta_row first acts = record { day = today first acts; acts = length acts; shipments = shipments_so_far first acts }

-- the tables of the acts
unfoldable pub tables_of : ℤ → List Act → Tables
tables_of first acts = record {
  meta = Some (meta_row first acts);
  item = item_row acts;
  least = least_row acts;
  bin = bin_row acts;
  lot = lot_row acts;
  recall = recall_row acts;
  stock = stock_row first acts;
  order = order_row first acts;
  urgent = urgent_row acts;
  line = line_row first acts;
  staged = staged_row first acts;
  reserved = reserved_row first acts;
  shipment = shipment_row first acts;
  shipline = shipline_row first acts;
  card = card_row first acts;
  repeat = repeat_row first acts;
}
