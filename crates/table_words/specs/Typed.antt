-- The rows of each table as typed ones, the tables as look-ups by primary key, and what the calls make of them.
use Rattle.std.specs.Prelude.{◌≡◌, ℕ, ℤ, Bool, true, ◌&&◌, if◌then◌else◌, bytes_eq, nat_eq, codes, List, [], ◌∷◌, ◌++◌, filter, find, pos, Option, Some, None}
use Rattle.std.specs.List.{AllByRecursion}
use Rattle.sqlite_value.specs.declared.value.Value.TheVariants.{Int, Text}
use Rattle.sqlite_value.specs.Order.{Row, column}
use Rattle.sqlite.specs.Tree.{Trees}
use Rattle.values.specs.Values.{QTY_MAX, is_gtin, is_lot_text, is_name, is_title, LEAST_DAYS_MAX}
use Rattle.label.specs.Days.{is_business_day}
use Rattle.values.specs.declared.lot.LotId.{LotId}
pub use Rattle.commands.specs.Tables.{Tables}
use Rattle.commands.specs.declared.limits.TheConstants.{UNITS_MAX, ACTS_MAX, SHORT_MAX, KEY_TEXT_MAX, CARD_NOTE_MAX, SCHEMA_VERSION}
use Rattle.table_words.specs.Cells.{typed, is_the_text, fits_in, is_any, is_number, is_count, is_the_number, number_in, is_signed, is_card_units, is_expiry, signed_in, is_open_state}
use Rattle.commands.specs.declared.command.BinKind.{BinKind}
use Rattle.commands.specs.declared.rows.OrderState.{OrderState}
use Rattle.commands.specs.declared.rows.CardKind.{CardKind}
use Rattle.commands.specs.declared.rows.MetaRow.{MetaRow}
use Rattle.commands.specs.declared.rows.ItemRow.{ItemRow}
use Rattle.commands.specs.declared.rows.LeastRow.{LeastRow}
use Rattle.commands.specs.declared.rows.BinRow.{BinRow}
use Rattle.commands.specs.declared.rows.LotRow.{LotRow}
use Rattle.commands.specs.declared.rows.RecallRow.{RecallRow}
use Rattle.commands.specs.declared.rows.StockRow.{StockRow}
use Rattle.commands.specs.declared.rows.OrderRow.{OrderRow}
use Rattle.commands.specs.declared.rows.UrgentRow.{UrgentRow}
use Rattle.commands.specs.declared.rows.LineRow.{LineRow}
use Rattle.commands.specs.declared.rows.StagedRow.{StagedRow}
use Rattle.commands.specs.declared.rows.ReservedRow.{ReservedRow}
use Rattle.commands.specs.declared.rows.ShipmentRow.{ShipmentRow}
use Rattle.commands.specs.declared.rows.ShiplineRow.{ShiplineRow}
use Rattle.commands.specs.declared.rows.CardRow.{CardRow}
use Rattle.commands.specs.declared.rows.RepeatRow.{RepeatRow}
use Rattle.table_words.specs.Stored.{Columns, Mapping, one, pair, text_stored, number_stored, count_stored, signed_stored, day_stored, flag_stored, bin_kind_stored, order_state_stored, card_kind_stored, is_stored_row, stored_rows}
use Rattle.table_words.specs.Schema.{meta_table, items_table, bins_table, lots_table, recalls_table, stock_table, orders_table, lines_table, staged_table, reserved_table, shipments_table, shiplines_table, cards_table, repeats_table, least_table, urgents_table}

abbrev pub same_lot_id : LotId → LotId → Bool
same_lot_id a b = bytes_eq a.gtin b.gtin && bytes_eq a.lot b.lot

-- ---- meta

-- whether the row reads as a typed one of books of this schema number; is_meta: of the newest
abbrev pub is_meta_at : ℕ → Row → Bool
is_meta_at version r = is_the_number 1 (column r 0) && (is_the_text (codes "LOTSTOCK") (column r 2) && (is_the_number version (column r 3) && (is_signed is_business_day (column r 4) && (is_number ACTS_MAX (column r 5) && is_number ACTS_MAX (column r 6)))))

abbrev pub is_meta : Row → Bool
is_meta r = is_meta_at SCHEMA_VERSION r

-- what it reads as
abbrev pub meta_in : Row → MetaRow
meta_in r = record { day = signed_in (column r 4); acts = number_in (column r 5); shipments = number_in (column r 6) }

-- the same of its columns in their order, as a statement answers them
abbrev pub has_meta : ℕ → Row → Bool
has_meta version v = is_the_number 1 (column v 0) && (is_the_text (codes "LOTSTOCK") (column v 1) && (is_the_number version (column v 2) && (is_signed is_business_day (column v 3) && (is_number ACTS_MAX (column v 4) && is_number ACTS_MAX (column v 5)))))

abbrev pub meta_read : Row → MetaRow
meta_read v = record { day = signed_in (column v 3); acts = number_in (column v 4); shipments = number_in (column v 5) }

abbrev pub MetaKey : Type 0
MetaKey = ℕ

abbrev pub same_meta : MetaKey → MetaKey → Bool
same_meta a b = nat_eq a b

abbrev pub meta_key : MetaRow → MetaKey
meta_key s = 1

-- its values in books of this schema number, in the order of the columns
abbrev pub meta_cells : ℕ → MetaRow → Row
meta_cells version s = Int (pos 1) ∷ Text (codes "LOTSTOCK") ∷ Int (pos version) ∷ Int s.day ∷ Int (pos s.acts) ∷ Int (pos s.shipments) ∷ []

-- the stored rows of this id
abbrev pub meta_rows_rows : ℕ → Trees → List Row
meta_rows_rows id trees = filter (λ r. is_the_number id (column r 0)) (trees meta_table.tree)

-- the typed row in books of this schema number, if there is one
abbrev pub meta_at : ℕ → Trees → Option MetaRow
meta_at version trees = find (λ s. same_meta 1 (meta_key s)) (typed (is_meta_at version) meta_in (trees meta_table.tree))

-- ---- items

abbrev pub item_mapping : Mapping ItemRow (List ℕ × List ℕ)
item_mapping = record { columns = pair (text_stored is_gtin) (one (text_stored is_title)); parts = λ s. (s.gtin, s.name); of = λ p. record { gtin = p.0; name = p.1 } }

abbrev pub ItemKey : Type 0
ItemKey = List ℕ

abbrev pub same_item : ItemKey → ItemKey → Bool
same_item a b = bytes_eq a b

abbrev pub item_key : ItemRow → ItemKey
item_key s = s.gtin

-- ---- least

abbrev pub least_mapping : Mapping LeastRow (List ℕ × ℕ)
least_mapping = record { columns = pair (text_stored is_gtin) (one (number_stored LEAST_DAYS_MAX)); parts = λ s. (s.gtin, s.days); of = λ p. record { gtin = p.0; days = p.1 } }

abbrev pub least_key : LeastRow → ItemKey
least_key s = s.gtin

-- ---- bins

abbrev pub bin_mapping : Mapping BinRow (List ℕ × BinKind)
bin_mapping = record { columns = pair (text_stored is_name) (one bin_kind_stored); parts = λ s. (s.name, s.kind); of = λ p. record { name = p.0; kind = p.1 } }

abbrev pub BinKey : Type 0
BinKey = List ℕ

abbrev pub same_bin : BinKey → BinKey → Bool
same_bin a b = bytes_eq a b

abbrev pub bin_key : BinRow → BinKey
bin_key s = s.name

-- ---- lots

abbrev pub lot_mapping : Mapping LotRow (List ℕ × (List ℕ × (ℤ × (ℕ × Bool))))
lot_mapping = record {
  columns = pair (text_stored is_gtin) (pair (text_stored is_lot_text) (pair (signed_stored is_expiry) (pair (count_stored ACTS_MAX) (one flag_stored))));
  parts = λ s. (s.lot.gtin, (s.lot.lot, (s.expiry, (s.came, s.held))));
  of = λ p. record { lot = record { gtin = p.0; lot = p.1.0 }; expiry = p.1.1.0; came = p.1.1.1.0; held = p.1.1.1.1 };
}

abbrev pub LotKey : Type 0
LotKey = LotId

abbrev pub same_lot : LotKey → LotKey → Bool
same_lot a b = same_lot_id a b

abbrev pub lot_key : LotRow → LotKey
lot_key s = s.lot

-- ---- recalls

abbrev pub recall_mapping : Mapping RecallRow (List ℕ × (List ℕ × ℕ))
recall_mapping = record { columns = pair (text_stored is_gtin) (pair (text_stored is_lot_text) (one (count_stored ACTS_MAX))); parts = λ s. (s.lot.gtin, (s.lot.lot, s.act)); of = λ p. record { lot = record { gtin = p.0; lot = p.1.0 }; act = p.1.1 } }

abbrev pub recall_key : RecallRow → LotKey
recall_key s = s.lot

-- ---- stock

abbrev pub stock_mapping : Mapping StockRow (List ℕ × (List ℕ × (List ℕ × ℕ)))
stock_mapping = record { columns = pair (text_stored is_gtin) (pair (text_stored is_lot_text) (pair (text_stored is_name) (one (count_stored UNITS_MAX)))); parts = λ s. (s.lot.gtin, (s.lot.lot, (s.bin, s.qty))); of = λ p. record { lot = record { gtin = p.0; lot = p.1.0 }; bin = p.1.1.0; qty = p.1.1.1 } }

abbrev pub StockKey : Type 0
StockKey = LotId × List ℕ

abbrev pub same_stock : StockKey → StockKey → Bool
same_stock a b = same_lot_id a.0 b.0 && bytes_eq a.1 b.1

abbrev pub stock_key : StockRow → StockKey
stock_key s = (s.lot, s.bin)

-- ---- orders

abbrev pub order_mapping : Mapping OrderRow (List ℕ × (ℕ × (List ℕ × OrderState)))
order_mapping = record { columns = pair (text_stored is_name) (pair (count_stored ACTS_MAX) (pair (text_stored is_title) (one order_state_stored))); parts = λ s. (s.order, (s.act, (s.customer, s.state))); of = λ p. record { order = p.0; act = p.1.0; customer = p.1.1.0; state = p.1.1.1 } }

abbrev pub OrderKey : Type 0
OrderKey = List ℕ

abbrev pub same_order : OrderKey → OrderKey → Bool
same_order a b = bytes_eq a b

abbrev pub order_key : OrderRow → OrderKey
order_key s = s.order

abbrev pub is_open_order : OrderRow → Bool
is_open_order s = is_open_state s.state

-- ---- urgents

abbrev pub urgent_mapping : Mapping UrgentRow (List ℕ × ℕ)
urgent_mapping = record { columns = pair (text_stored is_name) (one (count_stored ACTS_MAX)); parts = λ s. (s.order, s.act); of = λ p. record { order = p.0; act = p.1 } }

abbrev pub urgent_key : UrgentRow → OrderKey
urgent_key s = s.order

-- ---- lines

abbrev pub line_mapping : Mapping LineRow (List ℕ × (List ℕ × (ℕ × ℕ)))
line_mapping = record { columns = pair (text_stored is_name) (pair (text_stored is_gtin) (pair (count_stored QTY_MAX) (one (number_stored QTY_MAX)))); parts = λ s. (s.order, (s.gtin, (s.ordered, s.shipped))); of = λ p. record { order = p.0; gtin = p.1.0; ordered = p.1.1.0; shipped = p.1.1.1 } }

abbrev pub LineKey : Type 0
LineKey = List ℕ × List ℕ

abbrev pub same_line : LineKey → LineKey → Bool
same_line a b = bytes_eq a.0 b.0 && bytes_eq a.1 b.1

abbrev pub line_key : LineRow → LineKey
line_key s = (s.order, s.gtin)

-- ---- staged

abbrev pub staged_mapping : Mapping StagedRow (List ℕ × (List ℕ × (List ℕ × ℕ)))
staged_mapping = record { columns = pair (text_stored is_name) (pair (text_stored is_gtin) (pair (text_stored is_lot_text) (one (count_stored QTY_MAX)))); parts = λ s. (s.order, (s.lot.gtin, (s.lot.lot, s.qty))); of = λ p. record { order = p.0; lot = record { gtin = p.1.0; lot = p.1.1.0 }; qty = p.1.1.1 } }

abbrev pub StagedKey : Type 0
StagedKey = List ℕ × LotId

abbrev pub same_staged : StagedKey → StagedKey → Bool
same_staged a b = bytes_eq a.0 b.0 && same_lot_id a.1 b.1

abbrev pub staged_key : StagedRow → StagedKey
staged_key s = (s.order, s.lot)

-- ---- reserved

abbrev pub reserved_mapping : Mapping ReservedRow (List ℕ × (List ℕ × (List ℕ × ℕ)))
reserved_mapping = record { columns = pair (text_stored is_name) (pair (text_stored is_gtin) (pair (text_stored is_lot_text) (one (count_stored QTY_MAX)))); parts = λ s. (s.order, (s.lot.gtin, (s.lot.lot, s.qty))); of = λ p. record { order = p.0; lot = record { gtin = p.1.0; lot = p.1.1.0 }; qty = p.1.1.1 } }

abbrev pub ReservedKey : Type 0
ReservedKey = List ℕ × LotId

abbrev pub same_reserved : ReservedKey → ReservedKey → Bool
same_reserved a b = bytes_eq a.0 b.0 && same_lot_id a.1 b.1

abbrev pub reserved_key : ReservedRow → ReservedKey
reserved_key s = (s.order, s.lot)

-- ---- shipments

-- the columns after the number, which is the rowid
abbrev pub shipment_rest : Columns (ℕ × (ℤ × List ℕ))
shipment_rest = pair (count_stored ACTS_MAX) (pair day_stored (one (text_stored is_name)))

abbrev pub shipment_mapping : Mapping ShipmentRow (ℕ × (ℕ × (ℤ × List ℕ)))
shipment_mapping = record { columns = pair (count_stored ACTS_MAX) shipment_rest; parts = λ s. (s.number, (s.act, (s.day, s.order))); of = λ p. record { number = p.0; act = p.1.0; day = p.1.1.0; order = p.1.1.1 } }

-- whether a stored row reads as one, and as which
abbrev pub is_stored_shipment : Row → Bool
is_stored_shipment r = is_count ACTS_MAX (column r 0) && shipment_rest.has 2 r

abbrev pub stored_shipment : Row → ShipmentRow
stored_shipment r = shipment_mapping.of (number_in (column r 0), shipment_rest.reads 2 r)

abbrev pub ShipmentKey : Type 0
ShipmentKey = ℕ

abbrev pub same_shipment : ShipmentKey → ShipmentKey → Bool
same_shipment a b = nat_eq a b

abbrev pub shipment_key : ShipmentRow → ShipmentKey
shipment_key s = s.number

-- ---- shiplines

abbrev pub shipline_mapping : Mapping ShiplineRow (ℕ × (List ℕ × (List ℕ × ℕ)))
shipline_mapping = record { columns = pair (count_stored ACTS_MAX) (pair (text_stored is_gtin) (pair (text_stored is_lot_text) (one (count_stored QTY_MAX)))); parts = λ s. (s.number, (s.lot.gtin, (s.lot.lot, s.qty))); of = λ p. record { number = p.0; lot = record { gtin = p.1.0; lot = p.1.1.0 }; qty = p.1.1.1 } }

abbrev pub ShiplineKey : Type 0
ShiplineKey = ℕ × LotId

abbrev pub same_shipline : ShiplineKey → ShiplineKey → Bool
same_shipline a b = nat_eq a.0 b.0 && same_lot_id a.1 b.1

abbrev pub shipline_key : ShiplineRow → ShiplineKey
shipline_key s = (s.number, s.lot)

-- ---- cards

abbrev pub card_mapping : Mapping CardRow (List ℕ × (List ℕ × (ℕ × (ℤ × (CardKind × (List ℕ × (ℤ × ℕ)))))))
card_mapping = record {
  columns = pair (text_stored is_gtin) (pair (text_stored is_lot_text) (pair (count_stored ACTS_MAX) (pair day_stored (pair card_kind_stored (pair (text_stored (fits_in CARD_NOTE_MAX)) (pair (signed_stored is_card_units) (one (number_stored UNITS_MAX))))))));
  parts = λ s. (s.lot.gtin, (s.lot.lot, (s.act, (s.day, (s.kind, (s.note, (s.qty, s.rest)))))));
  of = λ p. record { lot = record { gtin = p.0; lot = p.1.0 }; act = p.1.1.0; day = p.1.1.1.0; kind = p.1.1.1.1.0; note = p.1.1.1.1.1.0; qty = p.1.1.1.1.1.1.0; rest = p.1.1.1.1.1.1.1 };
}

abbrev pub CardKey : Type 0
CardKey = LotId × ℕ

abbrev pub same_card : CardKey → CardKey → Bool
same_card a b = same_lot_id a.0 b.0 && nat_eq a.1 b.1

abbrev pub card_key : CardRow → CardKey
card_key s = (s.lot, s.act)

-- ---- repeats

abbrev pub repeat_mapping : Mapping RepeatRow (List ℕ × (ℕ × (List ℕ × List ℕ)))
repeat_mapping = record { columns = pair (text_stored (fits_in KEY_TEXT_MAX)) (pair (count_stored ACTS_MAX) (pair (text_stored is_any) (one (text_stored (fits_in SHORT_MAX))))); parts = λ s. (s.k, (s.act, (s.spell, s.reply))); of = λ p. record { k = p.0; act = p.1.0; spell = p.1.1.0; reply = p.1.1.1 } }

abbrev pub RepeatKey : Type 0
RepeatKey = List ℕ

abbrev pub same_repeat : RepeatKey → RepeatKey → Bool
same_repeat a b = bytes_eq a b

abbrev pub repeat_key : RepeatRow → RepeatKey
repeat_key s = s.k

-- ---- the tables

abbrev pub tables_in : Trees → Tables
tables_in trees = record {
  meta = meta_at SCHEMA_VERSION trees;
  item = λ gtin. find (λ s. same_item gtin (item_key s)) (stored_rows item_mapping (trees items_table.tree));
  least = λ gtin. find (λ s. same_item gtin (least_key s)) (stored_rows least_mapping (trees least_table.tree));
  bin = λ name. find (λ s. same_bin name (bin_key s)) (stored_rows bin_mapping (trees bins_table.tree));
  lot = λ lot. find (λ s. same_lot lot (lot_key s)) (stored_rows lot_mapping (trees lots_table.tree));
  recall = λ lot. find (λ s. same_lot lot (recall_key s)) (stored_rows recall_mapping (trees recalls_table.tree));
  stock = λ lot bin. find (λ s. same_stock (lot, bin) (stock_key s)) (stored_rows stock_mapping (trees stock_table.tree));
  order = λ order. find (λ s. same_order order (order_key s)) (stored_rows order_mapping (trees orders_table.tree));
  urgent = λ order. find (λ s. same_order order (urgent_key s)) (stored_rows urgent_mapping (trees urgents_table.tree));
  line = λ order gtin. find (λ s. same_line (order, gtin) (line_key s)) (stored_rows line_mapping (trees lines_table.tree));
  staged = λ order lot. find (λ s. same_staged (order, lot) (staged_key s)) (stored_rows staged_mapping (trees staged_table.tree));
  reserved = λ order lot. find (λ s. same_reserved (order, lot) (reserved_key s)) (stored_rows reserved_mapping (trees reserved_table.tree));
  shipment = λ number. find (λ s. same_shipment number (shipment_key s)) (typed is_stored_shipment stored_shipment (trees shipments_table.tree));
  shipline = λ number lot. find (λ s. same_shipline (number, lot) (shipline_key s)) (stored_rows shipline_mapping (trees shiplines_table.tree));
  card = λ lot act. find (λ s. same_card (lot, act) (card_key s)) (stored_rows card_mapping (trees cards_table.tree));
  repeat = λ k. find (λ s. same_repeat k (repeat_key s)) (stored_rows repeat_mapping (trees repeats_table.tree));
}

-- which of the rows that a tree stores read as typed ones
pub record Rule : Type 0 where
  pub tree : ℕ
  pub is : Row → Bool

-- the rows of a tree that read so
abbrev pub rule_for : {X P : Type 0} → ℕ → Mapping X P → Rule
rule_for tree m = record { tree = tree; is = is_stored_row m }

-- a rule for each table of schema 1, in their order, in books of this schema number
abbrev pub first_rules : ℕ → List Rule
first_rules version =
    record { tree = meta_table.tree; is = is_meta_at version }
    ∷ rule_for items_table.tree item_mapping
    ∷ rule_for bins_table.tree bin_mapping
    ∷ rule_for lots_table.tree lot_mapping
    ∷ rule_for recalls_table.tree recall_mapping
    ∷ rule_for stock_table.tree stock_mapping
    ∷ rule_for orders_table.tree order_mapping
    ∷ rule_for lines_table.tree line_mapping
    ∷ rule_for staged_table.tree staged_mapping
    ∷ rule_for reserved_table.tree reserved_mapping
    ∷ record { tree = shipments_table.tree; is = is_stored_shipment }
    ∷ rule_for shiplines_table.tree shipline_mapping
    ∷ rule_for cards_table.tree card_mapping
    ∷ rule_for repeats_table.tree repeat_mapping
    ∷ []

-- and for each table of schema 2
abbrev pub second_rules : ℕ → List Rule
second_rules version = first_rules version ++ rule_for least_table.tree least_mapping ∷ []

-- a rule for each table, in the order of the tables
abbrev pub rules_at : ℕ → List Rule
rules_at version = second_rules version ++ rule_for urgents_table.tree urgent_mapping ∷ []

abbrev pub the_rules : List Rule
the_rules = rules_at SCHEMA_VERSION

-- each row that is stored there reads as a typed one
abbrev pub Keeps : Trees → Rule → Type 0
Keeps trees rule = AllByRecursion (λ r. rule.is r ≡ true) (trees rule.tree)

-- each stored row reads as a typed one
pub record AreTyped (trees : Trees) : Type 0 where
  pub each : AllByRecursion (Keeps trees) the_rules

-- the same in books of this schema number
abbrev pub AreTypedAt : ℕ → Trees → Type 0
AreTypedAt version trees = AllByRecursion (Keeps trees) (rules_at version)

-- ---- what the calls make of them

-- the row takes the place of the one that there is
abbrev pub with_meta : MetaRow → Tables → Tables
with_meta s t = record t { meta = Some s }

-- the row takes the place of one with its key
abbrev pub with_item : ItemRow → Tables → Tables
with_item s t = record t { item = λ at_gtin. if same_item at_gtin (item_key s) then Some s else t.item at_gtin }

abbrev pub with_least : LeastRow → Tables → Tables
with_least s t = record t { least = λ at_gtin. if same_item at_gtin (least_key s) then Some s else t.least at_gtin }

abbrev pub with_bin : BinRow → Tables → Tables
with_bin s t = record t { bin = λ at_name. if same_bin at_name (bin_key s) then Some s else t.bin at_name }

abbrev pub with_order : OrderRow → Tables → Tables
with_order s t = record t { order = λ at_order. if same_order at_order (order_key s) then Some s else t.order at_order }

abbrev pub with_urgent : UrgentRow → Tables → Tables
with_urgent s t = record t { urgent = λ at_order. if same_order at_order (urgent_key s) then Some s else t.urgent at_order }

abbrev pub with_line : LineRow → Tables → Tables
with_line s t = record t { line = λ at_order at_gtin. if same_line (at_order, at_gtin) (line_key s) then Some s else t.line at_order at_gtin }

abbrev pub without_staged : List ℕ → LotId → Tables → Tables
without_staged order lot t = record t { staged = λ at_order at_lot. if same_staged (at_order, at_lot) (order, lot) then None else t.staged at_order at_lot }

abbrev pub with_repeat : RepeatRow → Tables → Tables
with_repeat s t = record t { repeat = λ at_k. if same_repeat at_k (repeat_key s) then Some s else t.repeat at_k }

-- what stands where no tree stores a row
abbrev pub no_rows : Tables
no_rows = tables_in (λ tree. [])
