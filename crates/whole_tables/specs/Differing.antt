-- Rows of the books that differ, and tables that are alike.
use Rattle.std.specs.Prelude.{◌≡◌, ◌≢◌, Option}
use Rattle.whole_tables.specs.Words.{Database, Tables, Rule, tables_in, Keeps, Described, rule_of}
use Rattle.whole_tables.specs.declared.key.RowKey.{RowKey}
use Rattle.whole_tables.specs.declared.key.RowKey.TheVariants as key
use Rattle.whole_tables.specs.declared.key.TableName.{TableName}
use Rattle.whole_tables.specs.declared.key.TableName.TheVariants as table
use Rattle.whole_tables.specs.Family.{Row, Key, described, look}

-- the table of a row, and its key there
abbrev pub place_of : RowKey → (n : TableName) × Key n
place_of key.Meta = (table.Meta, tt)
place_of (key.Item gtin) = (table.Items, gtin)
place_of (key.Least gtin) = (table.Least, gtin)
place_of (key.Bin name) = (table.Bins, name)
place_of (key.Lot lot) = (table.Lots, lot)
place_of (key.Recall lot) = (table.Recalls, lot)
place_of (key.Stock lot bin) = (table.Stock, (lot, bin))
place_of (key.Order order) = (table.Orders, order)
place_of (key.Urgent order) = (table.Urgents, order)
place_of (key.Line order gtin) = (table.Lines, (order, gtin))
place_of (key.Staged order lot) = (table.Staged, (order, lot))
place_of (key.Reserved order lot) = (table.Reserved, (order, lot))
place_of (key.Shipment number) = (table.Shipments, number)
place_of (key.Shipline number lot) = (table.Shiplines, (number, lot))
place_of (key.Card lot act) = (table.Cards, (lot, act))
place_of (key.Repeat k) = (table.Repeats, k)

abbrev pub table_of : RowKey → TableName
table_of row = (place_of row).0

-- the row that the tables have under this key
abbrev pub row_at : (row : RowKey) → Tables → Option (Row (table_of row))
row_at row t = look (table_of row) t (place_of row).1

-- under this key the two have not the same row: one has another, or none
abbrev pub RowDiffers : RowKey → Tables → Tables → Type 0
RowDiffers row a b = row_at row a ≢ row_at row b

-- which of the rows that the table stores read as typed ones
abbrev pub rule_called : TableName → Rule
rule_called n = rule_of (described n)

-- the two have this table alike, and each row that the first stores of it reads as a typed one
pub record SameTable {X K : Type 0} (d : Described X K) (a b : Database) : Type 0 where
  pub same : (k : K) → d.look (tables_in a.trees) k ≡ d.look (tables_in b.trees) k
  pub typed : Keeps a.trees (rule_of d)

abbrev pub SameCalled : TableName → Database → Database → Type 0
SameCalled n = SameTable (described n)
