-- Bringing older books up to the newest schema.
use Rattle.std.specs.Prelude.{◌≡◌, ◌↔◌, ⊤, List, [], true, map}
use Rattle.std.specs.List.{AllByRecursion}
use Rattle.commands.specs.Schemas.{without_least, with_least, without_urgents}
use Rattle.commands.specs.declared.rows.ItemRow.{ItemRow}
use Rattle.commands.specs.declared.rows.LeastRow.{LeastRow}
use Rattle.books_schema.specs.Words.{Database, IsDatabase, State, Trees, Index, AreRows, items_table, IsReady, Tables, tables_in, meta_at, item_mapping, same_item, item_key, ItemKey, Rule, first_rules, second_rules, Keeps, AreTyped}
use Rattle.table_words.specs.Rows.{IsRows}
use Rattle.table_words.specs.Stored.{is_stored_row}
use Rattle.books_schema.specs.Older.{number, older_tables, lacking_tables, IsOlderSchema, KeepsOlderRows, HasOurs}
use Rattle.books_schema.specs.declared.older.OlderBooks.{OlderBooks}
use Rattle.books_schema.specs.declared.older.OlderBooks.TheVariants.{First, Second}

-- the newest tables as these books have them: those that they lack are seen as tables without rows
abbrev pub as_older : OlderBooks → Tables → Tables
as_older First t = without_least (without_urgents t)
as_older Second t = without_urgents t

-- and as they come to be: from schema 1 each item asks for 0 days
abbrev pub as_brought : OlderBooks → Tables → Tables
as_brought First t = with_least t
as_brought Second t = t

-- what the tables of these books read as, under their number
abbrev pub older_tables_in : OlderBooks → Trees → Tables
older_tables_in older trees = as_older older (record (tables_in trees) { meta = meta_at (number older) trees })

-- a rule for each of their tables
abbrev pub older_rules : OlderBooks → List Rule
older_rules First = first_rules 1
older_rules Second = second_rules 2

-- each row that is stored in them reads as a typed one
abbrev pub AreOlderTyped : OlderBooks → Trees → Type 0
AreOlderTyped older trees = AllByRecursion (Keeps trees) (older_rules older)

-- each of the items does
abbrev pub AreItemsTyped : Trees → Type 0
AreItemsTyped trees = AllByRecursion (λ r. is_stored_row item_mapping r ≡ true) (trees items_table.tree)

-- what is read of them beside the row of `meta` does: from schema 1 the items
abbrev pub AreFillersTyped : OlderBooks → Trees → Type 0
AreFillersTyped First trees = AreItemsTyped trees
AreFillersTyped Second trees = ⊤

-- the rowids of each of their tables rise
abbrev pub AreOlderRows : OlderBooks → Trees → Type 0
AreOlderRows older trees = AllByRecursion (λ t. IsRows (trees t.tree)) (older_tables older)

-- the database is that of these books: it keeps the rules of its schema, and the rowids of each table rise
pub record IsOlderReady (older : OlderBooks) (db : Database) : Type 0 where
  pub has : IsOlderSchema older db.schema
  pub rows : AreOlderRows older db.trees
  pub sound : IsDatabase db

-- a transaction over such books that have these rows
pub record IsOlder (older : OlderBooks) (base : Trees) (s : State) : Type 0 where
  pub ours : List Index
  pub has : HasOurs older base ours s
  pub rows : AreOlderRows older base

-- The tables are those of the newest schema: those of the older books have the rows that they had, the others none, and
-- the transaction goes on.
pub record HasRoom (older : OlderBooks) (base : Trees) (s : State) : Type 0 where
  pub ready : IsReady s.now
  pub kept : KeepsOlderRows older base s.now.trees
  pub empty : AllByRecursion (λ t. s.now.trees t.tree ≡ []) (lacking_tables older)
  pub inside : s.in_transaction ≡ true

-- a row of `least` for the item, which asks for 0 days
abbrev pub row_of : ItemRow → LeastRow
row_of i = record { gtin = i.gtin; days = 0 }

-- these are such rows, one for each item, and each item that is stored reads as a typed one
abbrev pub AsksNone : Trees → List LeastRow → Type 0
AsksNone trees rows = AreItemsTyped trees × (items : List ItemRow) × AreRows {K = ItemKey} same_item item_key (λ key. true) (tables_in trees).item items × (rows ≡ map row_of items)

-- the rows of `least` that are added: from schema 1 those, else none
abbrev pub Fills : OlderBooks → Trees → List LeastRow → Type 0
Fills First trees rows = AsksNone trees rows
Fills Second trees rows = rows ≡ []

-- The trees have the newest tables, which come of those of these books; what was read of these reads as typed rows. Each row
-- that is stored does exactly where each did that these stored.
pub record IsBrought (older : OlderBooks) (base trees : Trees) : Type 0 where
  pub read : AreFillersTyped older base
  pub tables : tables_in trees ≡ as_brought older (older_tables_in older base)
  pub typed : AreOlderTyped older base ↔ AreTyped trees

-- so do those of a transaction that goes on
pub record IsWritten (older : OlderBooks) (base : Trees) (s : State) : Type 0 where
  pub ready : IsReady s.now
  pub brought : IsBrought older base s.now.trees
  pub inside : s.in_transaction ≡ true
