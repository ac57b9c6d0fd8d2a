-- The rows that are known, and that follow what is written.
use Rattle.std.specs.Prelude.{◌≡◌, ◌⊎◌, ℕ, List, [], reverse, Option, Some, None, IfSome}
use Rattle.std.specs.Ordering.{nat_cmp}
use Rattle.std.specs.Cmp.Lexicographic.{slice_cmp}
use Rattle.slices.specs.Words.{Tables, LineRow, LotRow, MetaRow, OrderRow, ReservedRow, StagedRow, StockRow, UrgentRow, Put, RowMap, rows_at, KnowsNone, ChangesAt, ChangesBy, SetsBy, Remembers, with_put, without_row}
use Rattle.values.specs.declared.lot_key.LotKey.{LotKey}
use Rattle.rows_in_memory.specs.LotOrder.{lot_key as turned_lot, lot_key_cmp}
use Rattle.rows_in_memory.specs.declared.line_keys.LineKey.{LineKey}
use Rattle.rows_in_memory.specs.LineOrder.{turned_line, line_key_cmp}
use Rattle.row_rules.specs.declared.slice.Change.{Change}
use Rattle.row_rules.specs.declared.slice.Dropped.{Dropped}
use Rattle.tables.specs.Lots.{AreLotOf, AreLotsOf}
use Rattle.tables.specs.Stock.{AreStockOf}
use Rattle.tables.specs.Lines.{AreLinesOfOrder, AreLineOf}
use Rattle.tables.specs.Orders.{AreOrdersOf}
use Rattle.tables.specs.Reserved.{AreReservedOfItem, AreReservedOfOrder}
use Rattle.tables.specs.Staged.{AreStagedOfItem, AreStagedOfOrder}
use Rattle.tables.specs.Urgents.{AreUrgentsOf}
use Rattle.rows_in_memory.specs.Keyed.{same_lot_row, same_stock_row, same_urgent_row, same_line_row, same_staged_row, same_reserved_row}
use Rattle.slices.specs.declared.followed.Followed.{Followed}

-- What is known of one table is so

-- lots by their keys
abbrev pub KnowsLots : Tables → RowMap LotKey LotRow → Type 0
KnowsLots t m = Remembers lot_key_cmp turned_lot (λ by found. AreLotOf by t found) m

-- all lots of an item, by its GTIN
abbrev pub KnowsLotsOf : Tables → RowMap (List ℕ) LotRow → Type 0
KnowsLotsOf t m = Remembers (slice_cmp nat_cmp) reverse (λ by found. AreLotsOf by t found) m

-- orders by their names
abbrev pub KnowsOrders : Tables → RowMap (List ℕ) OrderRow → Type 0
KnowsOrders t m = Remembers (slice_cmp nat_cmp) reverse (λ by found. AreOrdersOf by t found) m

-- rows of urgent orders by the names of these
abbrev pub KnowsUrgents : Tables → RowMap (List ℕ) UrgentRow → Type 0
KnowsUrgents t m = Remembers (slice_cmp nat_cmp) reverse (λ by found. AreUrgentsOf by t found) m

-- all lines of an order, by its name
abbrev pub KnowsLines : Tables → RowMap (List ℕ) LineRow → Type 0
KnowsLines t m = Remembers (slice_cmp nat_cmp) reverse (λ by found. AreLinesOfOrder by t found) m

-- lines by their orders and items
abbrev pub KnowsLinesAt : Tables → RowMap LineKey LineRow → Type 0
KnowsLinesAt t m = Remembers line_key_cmp turned_line (λ by found. AreLineOf by t found) m

-- stock by the GTINs of its items
abbrev pub KnowsStock : Tables → RowMap (List ℕ) StockRow → Type 0
KnowsStock t m = Remembers (slice_cmp nat_cmp) reverse (λ by found. AreStockOf by t found) m

-- what is staged, by the GTINs of its items
abbrev pub KnowsStaged : Tables → RowMap (List ℕ) StagedRow → Type 0
KnowsStaged t m = Remembers (slice_cmp nat_cmp) reverse (λ by found. AreStagedOfItem by t found) m

-- what is staged, by the names of its orders
abbrev pub KnowsStagedFor : Tables → RowMap (List ℕ) StagedRow → Type 0
KnowsStagedFor t m = Remembers (slice_cmp nat_cmp) reverse (λ by found. AreStagedOfOrder by t found) m

-- what is reserved, by the GTINs of its items
abbrev pub KnowsReserved : Tables → RowMap (List ℕ) ReservedRow → Type 0
KnowsReserved t m = Remembers (slice_cmp nat_cmp) reverse (λ by found. AreReservedOfItem by t found) m

-- what is reserved, by the names of its orders
abbrev pub KnowsReservedFor : Tables → RowMap (List ℕ) ReservedRow → Type 0
KnowsReservedFor t m = Remembers (slice_cmp nat_cmp) reverse (λ by found. AreReservedOfOrder by t found) m

-- the row of the books
abbrev pub KnowsMeta : Tables → Option MetaRow → Type 0
KnowsMeta t known = IfSome known (λ row. t.meta ≡ Some row)

-- so of all
pub record KnowsFollowed (t : Tables) (known : Followed) : Type 0 where
  pub lots : KnowsLots t known.lots.rows
  pub lots_of : KnowsLotsOf t known.lots_of.rows
  pub orders : KnowsOrders t known.orders.rows
  pub urgents : KnowsUrgents t known.urgents.rows
  pub lines : KnowsLines t known.lines.rows
  pub lines_at : KnowsLinesAt t known.lines_at.rows
  pub stock : KnowsStock t known.stock.rows
  pub staged : KnowsStaged t known.staged.rows
  pub staged_for : KnowsStagedFor t known.staged_for.rows
  pub reserved : KnowsReserved t known.reserved.rows
  pub reserved_for : KnowsReservedFor t known.reserved_for.rows
  pub meta : KnowsMeta t known.meta

-- nothing is known
pub record KnowsNoneFollowed (known : Followed) : Type 0 where
  pub lots : KnowsNone lot_key_cmp known.lots.rows
  pub lots_of : KnowsNone (slice_cmp nat_cmp) known.lots_of.rows
  pub orders : KnowsNone (slice_cmp nat_cmp) known.orders.rows
  pub urgents : KnowsNone (slice_cmp nat_cmp) known.urgents.rows
  pub lines : KnowsNone (slice_cmp nat_cmp) known.lines.rows
  pub lines_at : KnowsNone line_key_cmp known.lines_at.rows
  pub stock : KnowsNone (slice_cmp nat_cmp) known.stock.rows
  pub staged : KnowsNone (slice_cmp nat_cmp) known.staged.rows
  pub staged_for : KnowsNone (slice_cmp nat_cmp) known.staged_for.rows
  pub reserved : KnowsNone (slice_cmp nat_cmp) known.reserved.rows
  pub reserved_for : KnowsNone (slice_cmp nat_cmp) known.reserved_for.rows
  pub meta : known.meta ≡ None

-- What is known, with the rows of a change

abbrev pub LotsPut : Put → RowMap LotKey LotRow → RowMap LotKey LotRow → Type 0
LotsPut puts old new = ChangesBy lot_key_cmp (λ (r : LotRow). turned_lot r.lot) (with_put same_lot_row) puts.lots old new

abbrev pub LotsOfPut : Put → RowMap (List ℕ) LotRow → RowMap (List ℕ) LotRow → Type 0
LotsOfPut puts old new = ChangesBy (slice_cmp nat_cmp) (λ (r : LotRow). reverse r.lot.gtin) (with_put same_lot_row) puts.lots old new

abbrev pub OrdersSet : Put → RowMap (List ℕ) OrderRow → RowMap (List ℕ) OrderRow → Type 0
OrdersSet puts old new = SetsBy (slice_cmp nat_cmp) (λ (r : OrderRow). reverse r.order) puts.orders old new

abbrev pub UrgentsPut : Put → RowMap (List ℕ) UrgentRow → RowMap (List ℕ) UrgentRow → Type 0
UrgentsPut puts old new = ChangesBy (slice_cmp nat_cmp) (λ (r : UrgentRow). reverse r.order) (with_put same_urgent_row) puts.urgents old new

abbrev pub LinesPut : Put → RowMap (List ℕ) LineRow → RowMap (List ℕ) LineRow → Type 0
LinesPut puts old new = ChangesBy (slice_cmp nat_cmp) (λ (r : LineRow). reverse r.order) (with_put same_line_row) puts.lines old new

abbrev pub LinesAtPut : Put → RowMap LineKey LineRow → RowMap LineKey LineRow → Type 0
LinesAtPut puts old new = ChangesBy line_key_cmp (λ (r : LineRow). turned_line (r.order, r.gtin)) (with_put same_line_row) puts.lines old new

abbrev pub StockDropped : Dropped → RowMap (List ℕ) StockRow → RowMap (List ℕ) StockRow → Type 0
StockDropped drops old new = ChangesBy (slice_cmp nat_cmp) (λ (r : StockRow). reverse r.lot.gtin) (without_row same_stock_row) drops.stock old new

abbrev pub StockPut : Put → RowMap (List ℕ) StockRow → RowMap (List ℕ) StockRow → Type 0
StockPut puts old new = ChangesBy (slice_cmp nat_cmp) (λ (r : StockRow). reverse r.lot.gtin) (with_put same_stock_row) puts.stock old new

abbrev pub StockFollows : Put → Dropped → RowMap (List ℕ) StockRow → RowMap (List ℕ) StockRow → Type 0
StockFollows puts drops old new = (mid : RowMap (List ℕ) StockRow) × StockDropped drops old mid × StockPut puts mid new

-- rows that were staged are gone, in what is known of them by the item
abbrev pub StagedGone : List StagedRow → RowMap (List ℕ) StagedRow → RowMap (List ℕ) StagedRow → Type 0
StagedGone rows old new = ChangesBy (slice_cmp nat_cmp) (λ (r : StagedRow). reverse r.lot.gtin) (without_row same_staged_row) rows old new

abbrev pub StagedPut : Put → RowMap (List ℕ) StagedRow → RowMap (List ℕ) StagedRow → Type 0
StagedPut puts old new = ChangesBy (slice_cmp nat_cmp) (λ (r : StagedRow). reverse r.lot.gtin) (with_put same_staged_row) puts.staged old new

abbrev pub StagedChanges : Put → Dropped → RowMap (List ℕ) StagedRow → RowMap (List ℕ) StagedRow → Type 0
StagedChanges puts drops old new = (mid : RowMap (List ℕ) StagedRow) × StagedGone drops.staged old mid × StagedPut puts mid new

-- once the stage of an order was emptied its rows are gone, where they are known by the order, and else nothing is known
abbrev pub StageGone : List ℕ → (stages old new : RowMap (List ℕ) StagedRow) → Type 0
StageGone order stages old new = ((gone : List StagedRow) × (rows_at (slice_cmp nat_cmp) stages (reverse order) ≡ Some gone) × StagedGone gone old new) ⊎ KnowsNone (slice_cmp nat_cmp) new

abbrev pub StageLeft : Option (List ℕ) → (stages old new : RowMap (List ℕ) StagedRow) → Type 0
StageLeft None stages old new = new ≡ old
StageLeft (Some order) stages old new = StageGone order stages old new

abbrev pub StagedFollows : Put → Dropped → (stages old new : RowMap (List ℕ) StagedRow) → Type 0
StagedFollows puts drops stages old new = (mid : RowMap (List ℕ) StagedRow) × StageLeft drops.stage stages old mid × StagedChanges puts drops mid new

-- by an order whose stage was emptied there are no rows
abbrev pub StageEmptied : Option (List ℕ) → RowMap (List ℕ) StagedRow → RowMap (List ℕ) StagedRow → Type 0
StageEmptied None old new = new ≡ old
StageEmptied (Some order) old new = ChangesAt (slice_cmp nat_cmp) (reverse order) (λ rows. []) old new

abbrev pub StagedForDropped : Dropped → RowMap (List ℕ) StagedRow → RowMap (List ℕ) StagedRow → Type 0
StagedForDropped drops old new = ChangesBy (slice_cmp nat_cmp) (λ (r : StagedRow). reverse r.order) (without_row same_staged_row) drops.staged old new

abbrev pub StagedForPut : Put → RowMap (List ℕ) StagedRow → RowMap (List ℕ) StagedRow → Type 0
StagedForPut puts old new = ChangesBy (slice_cmp nat_cmp) (λ (r : StagedRow). reverse r.order) (with_put same_staged_row) puts.staged old new

abbrev pub StagedForFollows : Put → Dropped → RowMap (List ℕ) StagedRow → RowMap (List ℕ) StagedRow → Type 0
StagedForFollows puts drops old new = (left : RowMap (List ℕ) StagedRow) × (mid : RowMap (List ℕ) StagedRow) × StageEmptied drops.stage old left × StagedForDropped drops left mid × StagedForPut puts mid new

abbrev pub ReservedDropped : Dropped → RowMap (List ℕ) ReservedRow → RowMap (List ℕ) ReservedRow → Type 0
ReservedDropped drops old new = ChangesBy (slice_cmp nat_cmp) (λ (r : ReservedRow). reverse r.lot.gtin) (without_row same_reserved_row) drops.reserved old new

abbrev pub ReservedPut : Put → RowMap (List ℕ) ReservedRow → RowMap (List ℕ) ReservedRow → Type 0
ReservedPut puts old new = ChangesBy (slice_cmp nat_cmp) (λ (r : ReservedRow). reverse r.lot.gtin) (with_put same_reserved_row) puts.reserved old new

abbrev pub ReservedFollows : Put → Dropped → RowMap (List ℕ) ReservedRow → RowMap (List ℕ) ReservedRow → Type 0
ReservedFollows puts drops old new = (mid : RowMap (List ℕ) ReservedRow) × ReservedDropped drops old mid × ReservedPut puts mid new

abbrev pub ReservedForDropped : Dropped → RowMap (List ℕ) ReservedRow → RowMap (List ℕ) ReservedRow → Type 0
ReservedForDropped drops old new = ChangesBy (slice_cmp nat_cmp) (λ (r : ReservedRow). reverse r.order) (without_row same_reserved_row) drops.reserved old new

abbrev pub ReservedForPut : Put → RowMap (List ℕ) ReservedRow → RowMap (List ℕ) ReservedRow → Type 0
ReservedForPut puts old new = ChangesBy (slice_cmp nat_cmp) (λ (r : ReservedRow). reverse r.order) (with_put same_reserved_row) puts.reserved old new

abbrev pub ReservedForFollows : Put → Dropped → RowMap (List ℕ) ReservedRow → RowMap (List ℕ) ReservedRow → Type 0
ReservedForFollows puts drops old new = (mid : RowMap (List ℕ) ReservedRow) × ReservedForDropped drops old mid × ReservedForPut puts mid new

pub record Follows (c : Change) (old new : Followed) : Type 0 where
  pub lots : LotsPut c.put old.lots.rows new.lots.rows
  pub lots_of : LotsOfPut c.put old.lots_of.rows new.lots_of.rows
  pub orders : OrdersSet c.put old.orders.rows new.orders.rows
  pub urgents : UrgentsPut c.put old.urgents.rows new.urgents.rows
  pub lines : LinesPut c.put old.lines.rows new.lines.rows
  pub lines_at : LinesAtPut c.put old.lines_at.rows new.lines_at.rows
  pub stock : StockFollows c.put c.dropped old.stock.rows new.stock.rows
  pub staged : StagedFollows c.put c.dropped old.staged_for.rows old.staged.rows new.staged.rows
  pub staged_for : StagedForFollows c.put c.dropped old.staged_for.rows new.staged_for.rows
  pub reserved : ReservedFollows c.put c.dropped old.reserved.rows new.reserved.rows
  pub reserved_for : ReservedForFollows c.put c.dropped old.reserved_for.rows new.reserved_for.rows
  pub meta : new.meta ≡ Some c.meta
