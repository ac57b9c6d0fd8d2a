-- The rows by which the trace of a lot is shown.
use Rattle.std.specs.Prelude.{◌≡◌, ◌∷◌, ◌==◌, if◌then◌else◌, find, unsigned_abs}
use Rattle.queries.specs.Words.{ℕ, Bool, true, List, [], filter, Option, Some, None, Result, Ok, Err, Vec, Global, same_text, LotId, Tables, Refusal, UnknownItem, UnknownLot, CardRow, ItemRow, LeastRow, LotRow, MetaRow, OrderRow, RecallRow, ShippedUnits, StagedRow, Act, is_lot, AreRows, ItemKey, same_item, least_key, LotKey, same_lot, recall_key, StagedKey, same_staged, staged_key, with_keys, AreOrders, AreStockOfLot, AreCardLines, TraceRows, ℤ}
use Rattle.commands.specs.Sound.{is_sound_key}
use Rattle.commands.specs.declared.key.Key.TheVariants.{Line}
use Rattle.commands.specs.declared.rows.CardKind.TheVariants.{Receipt}
use Rattle.machine.specs.Laws.{is_kind}
use Rattle.machine.specs.Views.{text_before}
use Rattle.overviews.specs.Shown.{trace_shown}
use Rattle.overviews.specs.Traces.{IsReceiptOf}
use Rattle.overviews.specs.declared.trace.Delivery.{Delivery}
use Rattle.overviews.specs.declared.trace.StagedUnits.{StagedUnits}
use Rattle.overviews.specs.declared.trace.TraceView.{TraceView}
use Rattle.queries.specs.Shipped.{is_of_shipment, AreTold}
use Rattle.queries.specs.ShownNotice.{whole}

-- The deliveries

-- what stands before the first slash, and what stands behind it
abbrev pub before_slash : List ℕ → List ℕ
before_slash [] = []
before_slash (c ∷ cs) = if c == 47 then [] else c ∷ before_slash cs

abbrev pub behind_slash : List ℕ → List ℕ
behind_slash [] = []
behind_slash (c ∷ cs) = if c == 47 then cs else behind_slash cs

-- the receipt of a line of a card, where its reference names a delivery and its line
abbrev pub delivery_with : CardRow → Option (List ℕ) → Option ℕ → Option Delivery
delivery_with c None line = None
delivery_with c (Some delivery) None = None
delivery_with c (Some delivery) (Some line) = Some (record { act = c.act; day = c.day; delivery = delivery; line = line; qty = unsigned_abs c.qty })

-- the line of a card is of a receipt
abbrev pub is_receipt : CardRow → Bool
is_receipt c = is_kind Receipt c.kind

-- and tells of this one, whose key is sound
abbrev pub IsDelivery : CardRow → Delivery → Type 0
IsDelivery c d = IsReceiptOf c d × (is_sound_key (Line d.delivery d.line) ≡ true)

-- What is staged

abbrev pub order_before : StagedRow → StagedRow → Bool
order_before r s = text_before r.order s.order

-- the units of a row with the customer of its order
abbrev pub IsStaged : List OrderRow → StagedRow → StagedUnits → Type 0
IsStaged orders r u = (o : OrderRow) × (find (λ (x : OrderRow). same_text r.order x.order) orders ≡ Some o) × (u ≡ record { customer = o.customer; order = r.order; qty = r.qty })

-- the orders of rows, each once
abbrev pub orders_staged : List StagedRow → List (List ℕ)
orders_staged staged = with_keys same_text (λ (r : StagedRow). r.order) staged []

-- of what is staged of the item, that of the lot; and its orders
pub record AreStages (l : LotId) (t : Tables) (staged : List StagedRow) (orders : List OrderRow) : Type 0 where
  pub all : List StagedRow
  pub of_item : AreRows {K = StagedKey} same_staged staged_key (λ k. same_text l.gtin k.1.gtin) (λ k. t.staged k.0 k.1) all
  pub own : staged ≡ filter (λ (r : StagedRow). is_lot l r.lot) all
  pub their_orders : AreOrders (orders_staged staged) t orders

-- The trace

-- the item and the lot, or the refusal
abbrev pub trace_head_of : Option ItemRow → Option LotRow → Result (ItemRow × LotRow) Refusal
trace_head_of None lot = Err UnknownItem
trace_head_of (Some item) None = Err UnknownLot
trace_head_of (Some item) (Some lot) = Ok (item, lot)

abbrev pub trace_head_in : Tables → LotId → Result (ItemRow × LotRow) Refusal
trace_head_in t l = trace_head_of (t.item l.gtin) (t.lot l)

-- what the lot's item asks for, and its recalls
pub record AreStanding (g : List ℕ) (t : Tables) (meta : MetaRow) (least : List LeastRow) (recalls : List RecallRow) : Type 0 where
  pub is_meta : t.meta ≡ Some meta
  pub asked : AreRows {K = ItemKey} same_item least_key (λ k. same_text g k) t.least least
  pub recalled : AreRows {K = LotKey} same_lot recall_key (λ k. same_text g k.gtin) t.recall recalls

-- the lines of the lot's card, and what those of them tell that are of shipments
abbrev pub ArePast : LotId → Tables → List CardRow → Option (Vec ShippedUnits Global) → Type 0
ArePast l t cards told = AreCardLines t l cards × AreTold t (filter is_of_shipment cards) told

pub record AreOfTrace (l : LotId) (t : Tables) (rows : TraceRows) : Type 0 where
  pub head : Ok (rows.item, rows.lot) ≡ trace_head_in t l
  pub standing : AreStanding l.gtin t rows.meta rows.least.items rows.recalls.items
  pub stock : AreStockOfLot l t rows.stock.items
  pub stages : AreStages l t rows.staged.items rows.orders.items
  pub past : ArePast l t rows.cards.items rows.shipments

-- these, or the refusal
abbrev pub IsTraceIn : LotId → Tables → Result TraceRows Refusal → Type 0
IsTraceIn l t (Err why) = Err why ≡ trace_head_in t l
IsTraceIn l t (Ok found) = AreOfTrace l t found

abbrev pub whole_trace_shown : ℤ → List Act → LotId → Result (Option TraceView) Refusal
whole_trace_shown first acts l = whole (trace_shown first acts l)
