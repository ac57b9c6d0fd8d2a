-- The rows that a slice is made of.
use Rattle.std.specs.Prelude.{◌≡◌, ◌⊎◌, ℕ, ℤ, Bool, true, false, ◌&&◌, ◌||◌, List, [], ◌∷◌, ◌++◌, map, filter, Option, Some, None, is_some}
use Rattle.values.specs.Values.{same_text}
use Rattle.slices.specs.Words.{LotId, names_of, Tables, Command, ITEMS_MAX, BINS_MAX, MetaRow, ItemRow, LeastRow, BinRow, LotRow, RecallRow, StockRow, OrderRow, UrgentRow, LineRow, StagedRow, ReservedRow, AreRows, only_if, same_lot_id, ItemKey, same_item, item_key, least_key, BinKey, same_bin, bin_key, LotKey, same_lot, lot_key, recall_key, StockKey, same_stock, stock_key, OrderKey, same_order, order_key, is_open_order, urgent_key, LineKey, same_line, line_key, StagedKey, same_staged, staged_key, ReservedKey, same_reserved, reserved_key, is_asking, Act, tables_of, Put}
use Rattle.commands.specs.declared.key.Key.{Key}
use Rattle.commands.specs.declared.command.Command.TheVariants.{Pick, Ship}
use Rattle.commands.specs.declared.command.Picking.{Picking}
use Rattle.rows_in_memory.specs.OpenLines.{Entries, orders_at, holds, are_apart, Gains, has_line_row}
use Rattle.machine.specs.Once.{IsHistory}
use Rattle.rules.specs.Slices.{IsSlice, counts_items, counts_bins}
use Rattle.row_rules.specs.declared.slice.Rows.{Rows}
use Rattle.row_rules.specs.declared.slice.Slice.{Slice}
use Rattle.slices.specs.Bounding.{IsToldNumber, AreBounds}
use Rattle.slices.specs.Remembering.{KnowsRows}
use Rattle.slices.specs.declared.knowing.Bounds.{Bounds}
use Rattle.slices.specs.declared.knowing.Known.{Known}
pub use Rattle.slices.specs.Reading.{Each}
use Rattle.slices.specs.ByLot.{AreLotsOf, AreStockOf}
pub use Rattle.rows_in_memory.specs.Parts.{is_among, with_name, with_names, with_some, items_named, lots_named, orders_named, bins_named, whole_orders, held_lots, lots_on_stage, others, other_names, has_line_in, with_lines, has_urgent_row, urgent_lines, names_among, is_ending, not_recalled, items_of_lots, with_staged}

-- the row passes
abbrev pub is_passed : {R : Type 0} → (R → Bool) → Option R → Bool
is_passed test None = false
is_passed test (Some r) = test r

-- whether the order's row tells that it is open
abbrev pub is_open_in : Tables → List ℕ → Bool
is_open_in t o = is_passed is_open_order (t.order o)

-- Rows

-- the row, where there is one
abbrev pub listed : {R : Type 0} → Option R → List R
listed None = []
listed (Some r) = r ∷ []

-- what items ask for, one item after another
abbrev pub AreLeast : List (List ℕ) → Tables → List LeastRow → Type 0
AreLeast gtins t least_rows = Each (λ g found. AreRows {K = ItemKey} same_item least_key (λ k. same_text g k) t.least found) gtins least_rows

-- of the items their own rows, what they ask for, their recalls and their stock: each item's in turn
pub record AreGoods (gtins : List (List ℕ)) (t : Tables) (item_rows : List ItemRow) (least_rows : List LeastRow) (recall_rows : List RecallRow) (stock_rows : List StockRow) : Type 0 where
  pub items : Each (λ g found. AreRows {K = ItemKey} same_item item_key (λ k. same_text g k) t.item found) gtins item_rows
  pub least : AreLeast gtins t least_rows
  pub recalls : Each (λ g found. AreRows {K = LotKey} same_lot recall_key (λ k. same_text g k.gtin) t.recall found) gtins recall_rows
  pub stock : Each (λ g found. AreRows {K = StockKey} same_stock stock_key (λ k. same_text g k.0.gtin) (λ k. t.stock k.0 k.1) found) gtins stock_rows

pub record AreBooked (gtins : List (List ℕ)) (t : Tables) (staged_rows : List StagedRow) (reserved_rows : List ReservedRow) : Type 0 where
  pub staged : Each (λ g found. AreRows {K = StagedKey} same_staged staged_key (λ k. same_text g k.1.gtin) (λ k. t.staged k.0 k.1) found) gtins staged_rows
  pub reserved : Each (λ g found. AreRows {K = ReservedKey} same_reserved reserved_key (λ k. same_text g k.1.gtin) (λ k. t.reserved k.0 k.1) found) gtins reserved_rows

-- what is staged of items, one item after another
abbrev pub AreStaged : List (List ℕ) → Tables → List StagedRow → Type 0
AreStaged gtins t staged_rows = Each (λ g found. AreRows {K = StagedKey} same_staged staged_key (λ k. same_text g k.1.gtin) (λ k. t.staged k.0 k.1) found) gtins staged_rows

-- the rows of the bins, one bin after another
abbrev pub AreBins : List (List ℕ) → Tables → List BinRow → Type 0
AreBins names t bin_rows = Each (λ b found. AreRows {K = BinKey} same_bin bin_key (λ k. same_text b k) t.bin found) names bin_rows

-- the lines of an order for items, one item after another, and those of orders, one order after another
abbrev pub AreLinesOf : List (List ℕ) → Tables → List ℕ → List LineRow → Type 0
AreLinesOf gtins t o line_rows = Each (λ g found. found ≡ listed (t.line o g)) gtins line_rows

abbrev pub AreLines : List (List ℕ) → List OrderRow → Tables → List LineRow → Type 0
AreLines gtins order_rows t line_rows = Each (λ o found. AreLinesOf gtins t o found) (map order_key order_rows) line_rows

-- all lines of orders, one order after another
abbrev pub AreAllLines : List (List ℕ) → Tables → List LineRow → Type 0
AreAllLines named t line_rows = Each (λ o found. AreRows {K = LineKey} same_line line_key (λ k. same_text o k.0) (λ k. t.line k.0 k.1) found) named line_rows

-- the row of an order, which is not sought where the order has no lines
abbrev pub AreLined : List ℕ → Tables → List OrderRow → Type 0
AreLined o t order_rows = ((order_rows ≡ []) × ((g : List ℕ) → t.line o g ≡ None)) ⊎ AreRows {K = OrderKey} same_order order_key (λ k. same_text o k) t.order order_rows

-- all lines of the orders named, and the rows of those that have lines
pub record AreNamed (named : List (List ℕ)) (t : Tables) (order_rows : List OrderRow) (line_rows : List LineRow) : Type 0 where
  pub orders : Each (λ o found. AreLined o t found) named order_rows
  pub lines : AreAllLines named t line_rows

-- the lines of the items in open orders that are not named, and the rows of those orders
pub record AreOpen (named gtins : List (List ℕ)) (t : Tables) (order_rows : List OrderRow) (line_rows : List LineRow) : Type 0 where
  pub all : List OrderRow
  pub read : AreRows {K = OrderKey} same_order order_key (λ key. true) (λ key. only_if is_open_order (t.order key)) all
  pub lines : AreLines gtins (others named all) t line_rows
  pub orders : order_rows ≡ with_lines line_rows (others named all)

-- By what is known of the open orders

-- the lines of orders for an item, one order after another
abbrev pub AreLinesFor : List (List ℕ) → Tables → List ℕ → List LineRow → Type 0
AreLinesFor orders t g line_rows = Each (λ o found. found ≡ listed (t.line o g)) orders line_rows

-- those in the orders that may be open and are not named
pub record AreLinesOfItem (known : Entries) (named : List (List ℕ)) (t : Tables) (g : List ℕ) (line_rows : List LineRow) : Type 0 where
  pub once : are_apart (orders_at known g) ≡ true
  pub lines : AreLinesFor (other_names named (orders_at known g)) t g line_rows

-- and those of items, one item after another
abbrev pub AreLinesOfItems : Entries → List (List ℕ) → List (List ℕ) → Tables → List LineRow → Type 0
AreLinesOfItems known named gtins t line_rows = Each (λ g found. AreLinesOfItem known named t g found) gtins line_rows

-- the rows of orders, one order after another
abbrev pub AreOrders : List (List ℕ) → Tables → List OrderRow → Type 0
AreOrders names t order_rows = Each (λ o found. AreRows {K = OrderKey} same_order order_key (λ k. same_text o k) t.order found) names order_rows

-- the lines of the items in orders that may be open and are not named, and the rows of those orders
pub record AreKnown (known : Entries) (named gtins : List (List ℕ)) (t : Tables) (order_rows : List OrderRow) (line_rows : List LineRow) : Type 0 where
  pub lines : AreLinesOfItems known named gtins t line_rows
  pub orders : AreOrders (with_names (λ (r : LineRow). r.order) line_rows []) t order_rows

-- together with the orders named
pub record AreKnownOrders (known : Entries) (named gtins : List (List ℕ)) (t : Tables) (order_rows : List OrderRow) (line_rows : List LineRow) : Type 0 where
  pub own : List OrderRow
  pub own_lines : List LineRow
  pub rest : List OrderRow
  pub rest_lines : List LineRow
  pub is_own : AreNamed named t own own_lines
  pub is_rest : AreKnown known named gtins t rest rest_lines
  pub orders : order_rows ≡ own ++ rest
  pub lines : line_rows ≡ own_lines ++ rest_lines

-- Urgent orders

-- the names with one of the items
abbrev pub names_at : Entries → List (List ℕ) → List (List ℕ)
names_at known [] = []
names_at known (g ∷ gtins) = orders_at known g ++ names_at known gtins

-- the rows of the urgent ones among these orders, one name after another
abbrev pub AreUrgents : List (List ℕ) → Tables → List UrgentRow → Type 0
AreUrgents names t urgent_rows = Each (λ o found. AreRows {K = OrderKey} same_order urgent_key (λ k. same_text o k) t.urgent found) names urgent_rows

-- those of the orders that may be urgent and have a line of one of the items
abbrev pub AreUrgentsFor : Entries → List (List ℕ) → List OrderRow → Tables → List UrgentRow → Type 0
AreUrgentsFor known gtins order_rows = AreUrgents (names_among (names_at known gtins) order_rows)

-- Openings of a day

-- of all lots those that end between the days, by what their items ask for, and are not among the recalls of their items
pub record AreEnding (old new : ℤ) (t : Tables) (lot_rows : List LotRow) : Type 0 where
  pub all : List LotRow
  pub read : AreRows {K = LotKey} same_lot lot_key (λ key. true) t.lot all
  pub least : List LeastRow
  pub least_read : AreRows {K = ItemKey} same_item least_key (λ key. true) (λ key. only_if is_asking (t.least key)) least
  pub recalls : List RecallRow
  pub recalls_read : Each (λ g found. AreRows {K = LotKey} same_lot recall_key (λ k. same_text g k.gtin) t.recall found) (items_of_lots (filter (is_ending old new least) all)) recalls
  pub lots : lot_rows ≡ not_recalled recalls (filter (is_ending old new least) all)

-- the items that the opening of the day touches: those of such lots, and those with staged units
pub record AreAffected (day : ℤ) (t : Tables) (gtins : List (List ℕ)) : Type 0 where
  pub meta : MetaRow
  pub is_meta : t.meta ≡ Some meta
  pub ending : List LotRow
  pub are_ending : AreEnding meta.day day t ending
  pub staged : List StagedRow
  pub read : AreRows {K = StagedKey} same_staged staged_key (λ key. true) (λ key. t.staged key.0 key.1) staged
  pub items : gtins ≡ with_staged staged (items_of_lots ending)

-- The orders that may be open

-- an open order stands with the item of each of its lines
abbrev pub Covers : Entries → Tables → Type 0
Covers known t = (o g : List ℕ) → is_open_in t o ≡ true → is_some (t.line o g) ≡ true → holds known g o ≡ true

-- so do the urgent ones, among those that may be urgent
abbrev pub CoversUrgent : Entries → Tables → Type 0
CoversUrgent known t = (o g : List ℕ) → is_open_in t o ≡ true → is_some (t.line o g) ≡ true → is_some (t.urgent o) ≡ true → holds known g o ≡ true

-- those of the tables, as they are read: all lines of the open orders, and those of the urgent ones
pub record AreOpenLines (t : Tables) (known urgent : Entries) : Type 0 where
  pub all : List OrderRow
  pub read : AreRows {K = OrderKey} same_order order_key (λ key. true) (λ key. only_if is_open_order (t.order key)) all
  pub lines : List LineRow
  pub lines_read : AreAllLines (map order_key all) t lines
  pub added : Gains (has_line_row lines) [] known
  pub urgents : List UrgentRow
  pub urgents_read : AreUrgents (map order_key all) t urgents
  pub urgent_added : Gains (has_line_row (urgent_lines urgents lines)) [] urgent

-- the orders that a change opens, and those that it puts as urgent ones
abbrev pub opens : List OrderRow → List ℕ → Bool
opens rows o = is_among (map order_key (filter is_open_order rows)) o

abbrev pub opened_by : Put → List (List ℕ)
opened_by puts = map order_key (filter is_open_order puts.orders) ++ other_names (map order_key (filter is_open_order puts.orders)) (map urgent_key puts.urgents)

-- the lines of these, and those that it puts
pub record AreLinesPut (puts : Put) (t : Tables) (line_rows : List LineRow) : Type 0 where
  pub read : List LineRow
  pub are_read : AreAllLines (opened_by puts) t read
  pub lines : line_rows ≡ read ++ puts.lines

-- the rows of the urgent ones among the orders of these lines, and those that it puts
pub record AreUrgentsPut (puts : Put) (line_rows : List LineRow) (t : Tables) (urgent_rows : List UrgentRow) : Type 0 where
  pub read : List UrgentRow
  pub are_read : AreUrgents (with_names (λ (r : LineRow). r.order) line_rows []) t read
  pub urgents : urgent_rows ≡ read ++ puts.urgents

-- whether the line comes with a change: it is put, or the tables have it and its order is opened, or put as an urgent one
abbrev pub comes : Put → Tables → List ℕ → List ℕ → Bool
comes puts t g o = has_line_row puts.lines g o || (is_some (t.line o g) && (opens puts.orders o || has_urgent_row puts.urgents o))

-- the lines that come are known, and among those of orders that may be urgent where the order is, or comes to be so
pub record Knows (puts : Put) (t : Tables) (known : Known) : Type 0 where
  pub lines : (g o : List ℕ) → comes puts t g o ≡ true → holds known.lines g o ≡ true
  pub urgent : (g o : List ℕ) → comes puts t g o ≡ true → is_some (t.urgent o) || has_urgent_row puts.urgents o ≡ true → holds known.urgent g o ≡ true

-- what is known of the books is so
pub record HoldsOf (known : Known) (t : Tables) : Type 0 where
  pub lines : Covers known.lines t
  pub urgent : CoversUrgent known.urgent t
  pub bounds : AreBounds known.bounds t
  pub rows : KnowsRows t known.rows

-- so beside its rows
pub record HoldsBeside (known : Known) (t : Tables) : Type 0 where
  pub lines : Covers known.lines t
  pub urgent : CoversUrgent known.urgent t
  pub bounds : AreBounds known.bounds t

-- Slices

-- the numbers that the command is judged by
pub record AreCounts (b : Bounds) (command : Command) (t : Tables) (item_count bin_count : ℕ) : Type 0 where
  pub items : counts_items command ≡ true → IsToldNumber same_item item_key t.item ITEMS_MAX b.items item_count
  pub bins : counts_bins command ≡ true → IsToldNumber same_bin bin_key t.bin BINS_MAX b.bins bin_count

-- the items that the command names, and those of the lines of the order that it takes whole, each once
pub record AreTaken (command : Command) (t : Tables) (gtins : List (List ℕ)) : Type 0 where
  pub lines : List LineRow
  pub read : AreAllLines (whole_orders command) t lines
  pub items : gtins ≡ with_names (λ r. r.gtin) lines (items_named command)

-- the items that the command touches
abbrev pub AreTouchedOn : Option ℤ → Command → Tables → List (List ℕ) → Type 0
AreTouchedOn None command t gtins = AreTaken command t gtins
AreTouchedOn (Some day) command t gtins = AreAffected day t gtins

abbrev pub AreTouched : Command → Tables → List (List ℕ) → Type 0
AreTouched command = AreTouchedOn (names_of command).day command

-- the rows that a command asks for that is no shipment and no pick
pub record ArePlanned (known : Known) (command : Command) (t : Tables) (rows : Rows) : Type 0 where
  pub gtins : List (List ℕ)
  pub touched : AreTouched command t gtins
  pub goods : AreGoods gtins t rows.items rows.least rows.recalls rows.stock
  pub staged : AreStaged gtins t rows.staged
  pub lots : AreLotsOf (held_lots command rows.stock rows.staged) t rows.lots
  pub bins : AreBins (with_names (λ r. r.bin) rows.stock (bins_named command)) t rows.bins
  pub ordered : AreKnownOrders known.lines (orders_named command) gtins t rows.orders rows.lines
  pub urgents : AreUrgentsFor known.urgent gtins rows.orders t rows.urgents
  pub no_reserved : rows.reserved ≡ []

-- those that the shipment of an order asks for: the order with its lines, what is staged of their items, and the stock
-- of the lots that are staged for the order
pub record AreShipped (order : List ℕ) (t : Tables) (rows : Rows) : Type 0 where
  pub named : AreNamed (order ∷ []) t rows.orders rows.lines
  pub staged : AreStaged (with_names (λ r. r.gtin) rows.lines []) t rows.staged
  pub stock : AreStockOf (lots_on_stage order rows.staged) t rows.stock
  pub no_items : rows.items ≡ []
  pub no_bins : rows.bins ≡ []
  pub no_lots : rows.lots ≡ []
  pub no_recalls : rows.recalls ≡ []
  pub no_reserved : rows.reserved ≡ []
  pub no_least : rows.least ≡ []
  pub no_urgents : rows.urgents ≡ []

-- Those that a pick asks for, each by its key. The item with the days that it asks for and its recalls, the lot and its stock, and
-- the bin
pub record AreGoodsIn (l : LotId) (bin : List ℕ) (t : Tables) (item_rows : List ItemRow) (least_rows : List LeastRow) (bin_rows : List BinRow) (lot_rows : List LotRow) (recall_rows : List RecallRow) (stock_rows : List StockRow) : Type 0 where
  pub items : AreRows {K = ItemKey} same_item item_key (λ k. same_text l.gtin k) t.item item_rows
  pub least : AreRows {K = ItemKey} same_item least_key (λ k. same_text l.gtin k) t.least least_rows
  pub bins : AreRows {K = BinKey} same_bin bin_key (λ k. same_text bin k) t.bin bin_rows
  pub lots : AreRows {K = LotKey} same_lot lot_key (same_lot l) t.lot lot_rows
  pub recalls : AreRows {K = LotKey} same_lot recall_key (λ k. same_text l.gtin k.gtin) t.recall recall_rows
  pub stock : AreRows {K = StockKey} same_stock stock_key (λ k. same_lot_id l k.0) (λ k. t.stock k.0 k.1) stock_rows

-- the order and its line of the item, and not whether it is urgent
pub record AreOrderOf (order gtin : List ℕ) (t : Tables) (order_rows : List OrderRow) (urgent_rows : List UrgentRow) (line_rows : List LineRow) : Type 0 where
  pub orders : AreRows {K = OrderKey} same_order order_key (λ k. same_text order k) t.order order_rows
  pub no_urgents : urgent_rows ≡ []
  pub lines : AreRows {K = LineKey} same_line line_key (λ k. same_line (order, gtin) k) (λ k. t.line k.0 k.1) line_rows

-- what is staged and what is reserved of the lot for the order
pub record AreSharesOf (order : List ℕ) (l : LotId) (t : Tables) (staged_rows : List StagedRow) (reserved_rows : List ReservedRow) : Type 0 where
  pub staged : AreRows {K = StagedKey} same_staged staged_key (λ k. same_staged (order, l) k) (λ k. t.staged k.0 k.1) staged_rows
  pub reserved : AreRows {K = ReservedKey} same_reserved reserved_key (λ k. same_reserved (order, l) k) (λ k. t.reserved k.0 k.1) reserved_rows

-- these together
pub record ArePicked (p : Picking) (t : Tables) (rows : Rows) : Type 0 where
  pub goods : AreGoodsIn p.lot p.bin t rows.items rows.least rows.bins rows.lots rows.recalls rows.stock
  pub ordered : AreOrderOf p.order p.lot.gtin t rows.orders rows.urgents rows.lines
  pub shares : AreSharesOf p.order p.lot t rows.staged rows.reserved

-- the rows that the command asks for
abbrev pub AreSliced : Known → Command → Tables → Rows → Type 0
AreSliced known (Ship order) t rows = AreShipped order t rows
AreSliced known (Pick p) t rows = ArePicked p t rows
AreSliced known command t rows = ArePlanned known command t rows

-- on the tables of a history it is the slice of the command, under whatever key
abbrev pub IsSliceOf : Command → Tables → Slice → Type 0
IsSliceOf command t s =
    (first : ℤ) (acts : List Act) (key : Key) → IsHistory first acts → t ≡ tables_of first acts
    → IsSlice first (record { key = key; command = command }) acts (tables_of first acts) s

-- the slice of a command, as it is read
pub record IsSliceIn (known : Known) (command : Command) (t : Tables) (s : Slice) : Type 0 where
  pub meta : t.meta ≡ Some s.meta
  pub counted : AreCounts known.bounds command t s.items s.bins
  pub rows : AreSliced known command t s.rows
