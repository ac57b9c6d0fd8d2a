-- The rows of a change: those of each table, and all of them written table by table.
use Rattle.std.specs.Prelude.{◌≡◌, ℕ, List, [], ◌∷◌, Option, Some, None}
use Rattle.commands.specs.Tables.{Tables}
use Rattle.keyed_rows.specs.Writes.{each_written}
use Rattle.keyed_rows.specs.Described.{with_row, without_row}
use Rattle.tables.specs.Lines.{lines_filled}
use Rattle.tables.specs.Staged.{without_stage}
use Rattle.row_rules.specs.declared.slice.Change.{Change}
use Rattle.whole_tables.specs.Family.{Row, Key, described, look}
use Rattle.whole_tables.specs.declared.key.TableName.{TableName}
use Rattle.whole_tables.specs.declared.key.TheConstants.{TABLE_NAMES}
use Rattle.whole_tables.specs.declared.key.TableName.TheVariants as table

-- the rows that a change puts, and those that it drops
abbrev pub puts : Change → (n : TableName) → List (Row n)
puts c table.Meta = c.meta ∷ []
puts c table.Items = c.put.items
puts c table.Least = c.put.least
puts c table.Bins = c.put.bins
puts c table.Lots = c.put.lots
puts c table.Recalls = c.put.recalls
puts c table.Stock = c.put.stock
puts c table.Orders = c.put.orders
puts c table.Urgents = c.put.urgents
puts c table.Lines = c.put.lines
puts c table.Staged = c.put.staged
puts c table.Reserved = c.put.reserved
puts c table.Shipments = c.put.shipments
puts c table.Shiplines = c.put.shiplines
puts c table.Cards = c.put.cards
puts c table.Repeats = []

abbrev pub drops : Change → (n : TableName) → List (Row n)
drops c table.Stock = c.dropped.stock
drops c table.Staged = c.dropped.staged
drops c table.Reserved = c.dropped.reserved
drops c n = []

-- the stage of an order is emptied, if there is one to empty: of all tables only `staged` loses rows that are not listed
abbrev pub stage_emptied : Option (List ℕ) → Tables → Tables
stage_emptied None t = t
stage_emptied (Some order) t = without_stage order t

abbrev pub emptied : Change → TableName → Tables → Tables
emptied c table.Staged t = stage_emptied c.dropped.stage t
emptied c n t = t

-- rows are dropped, and others are put
abbrev pub rows_written : {R : Type 0} → (put drop : R → Tables → Tables) → (puts drops : List R) → Tables → Tables
rows_written put drop puts drops t = each_written put puts (each_written drop drops t)

-- those of one table
abbrev pub table_written : Change → TableName → Tables → Tables
table_written c n t = rows_written (with_row (described n)) (λ r. without_row (described n) ((described n).key r)) (puts c n) (drops c n) (emptied c n t)

-- a change, whole; where no key is put twice it is the change applied
unfoldable pub change_written : Change → Tables → Tables
change_written c = each_written (table_written c) TABLE_NAMES.now

-- the same where one statement ships all units of each line of an order, if there is one to fill
abbrev pub table_made : Change → TableName → Option (List ℕ) → Tables → Tables
table_made c table.Lines (Some order) t = lines_filled order t
table_made c n filled t = table_written c n t

-- to put the lines of the change is to ship all units of each line of the order
abbrev pub FillsLines : Change → List ℕ → Tables → Type 0
FillsLines c order t = (k : Key table.Lines) → look table.Lines (table_written c table.Lines t) k ≡ look table.Lines (lines_filled order t) k

-- a change, whole, made so; where its lines fill the order it is the change written
unfoldable pub change_made : Change → Option (List ℕ) → Tables → Tables
change_made c filled = each_written (λ n. table_made c n filled) TABLE_NAMES.now
