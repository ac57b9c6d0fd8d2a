-- The trace of a lot: where its units came from, and where they are or went.
use Rattle.std.specs.Prelude.{◌≡◌, ℕ, Bool, not, ◌==◌, if◌then◌else◌, List, [], ◌∷◌, ◌++◌, length, map, filter, ℤ, pos, unsigned_abs}
use Rattle.values.specs.declared.lot.LotId.{LotId}
use Rattle.commands.specs.Lists.{total, in_order}
use Rattle.commands.specs.declared.command.Command.{Command}
use Rattle.commands.specs.declared.command.Command.TheVariants.{Receive}
use Rattle.commands.specs.declared.key.Key.{Key}
use Rattle.commands.specs.declared.key.Key.TheVariants.{Line}
use Rattle.commands.specs.declared.rows.CardKind.{CardKind}
use Rattle.commands.specs.declared.rows.CardKind.TheVariants.{Receipt, WriteOn, WriteOff}
use Rattle.commands.specs.declared.rows.CardRow.{CardRow}
use Rattle.commands.specs.declared.rows.ItemRow.{ItemRow}
use Rattle.overviews.specs.declared.trace.Delivery.{Delivery}
use Rattle.overviews.specs.declared.trace.StagedUnits.{StagedUnits}
use Rattle.overviews.specs.declared.trace.TraceView.{TraceView}
use Rattle.machine.specs.Acts.{Act, next_number}
use Rattle.machine.specs.Cards.{delivery_note}
use Rattle.machine.specs.Laws.{is_kind}
use Rattle.machine.specs.Planning.{staged_of_lot}
use Rattle.machine.specs.Postings.{is_lot}
use Rattle.machine.specs.Standing.{KnownLot, Placed, orders, today}
use Rattle.machine.specs.Views.{bins_of_lot, card_of_lot, lot_status, shipments_of_lot, text_before}

-- Where it came from

-- the receipt of the lot that an act is, if it is one
abbrev pub delivery_in : ℤ → LotId → Act → List Act → Key → Command → List Delivery
delivery_in first l act before (Line delivery line) (Receive r) =
    if is_lot l r.lot then record { act = next_number before; day = today first (act ∷ before); delivery = delivery; line = line; qty = r.qty } ∷ [] else []
delivery_in first l act before _ _ = []

-- the receipts of the lot, by act
abbrev pub deliveries : ℤ → List Act → LotId → List Delivery
deliveries first [] l = []
deliveries first (act ∷ before) l = deliveries first before l ++ delivery_in first l act before act.key act.command

-- the line of a lot's card tells of the receipt
abbrev pub IsReceiptOf : CardRow → Delivery → Type 0
IsReceiptOf c d = (c.act ≡ d.act) × (c.day ≡ d.day) × (c.note ≡ delivery_note (Line d.delivery d.line)) × (c.qty ≡ pos d.qty)

-- the units that lines of a card show of one kind
abbrev pub units_of_kind : CardKind → List CardRow → ℕ
units_of_kind kind rows = total (λ c. if is_kind kind c.kind then unsigned_abs c.qty else 0) rows

-- Where it is

abbrev pub staged_units : ℤ → List Act → LotId → Placed → StagedUnits
staged_units first acts l p = record { customer = p.customer; order = p.order; qty = staged_of_lot first acts p.order l }

abbrev pub has_staged_units : StagedUnits → Bool
has_staged_units u = not (u.qty == 0)

-- the orders with staged units of the lot, by name
abbrev pub stages_of_lot : ℤ → List Act → LotId → List StagedUnits
stages_of_lot first acts l = in_order (λ a b. text_before a.order b.order) (filter has_staged_units (map (staged_units first acts l) (orders acts)))

-- The trace

abbrev pub trace_view : ℤ → List Act → ItemRow → KnownLot → TraceView
trace_view first acts item k = record {
  act = length acts;
  bins = bins_of_lot first acts k.lot;
  deliveries = deliveries first acts k.lot;
  expiry = k.expiry;
  item = item;
  lot = k.lot.lot;
  off = units_of_kind WriteOff (card_of_lot first acts k.lot);
  on = units_of_kind WriteOn (card_of_lot first acts k.lot);
  received = units_of_kind Receipt (card_of_lot first acts k.lot);
  shipments = shipments_of_lot first acts k.lot;
  staged = stages_of_lot first acts k.lot;
  status = lot_status first acts k;
}
