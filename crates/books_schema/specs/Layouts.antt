-- What a table of each layout is, and which lists of tables those of books are.
use Rattle.std.specs.Prelude.{◌≡◌, ◌+◌, ◌++◌, ◌&&◌, true, not, ℕ, Bool, List, if◌then◌else◌, map, bytes_eq, nat_eq}
use Rattle.std.specs.List.{list_all}
use Rattle.books_schema.specs.Words.{Table, Index, column, id_table, keyed_table, the_tables, refers_to_none}
use Rattle.sqlite_value.specs.Keys.{plain}
use Rattle.sqlite_schema.specs.declared.schema.Column.{Column}
use Rattle.books_schema.specs.declared.layouts.TableLayout.{TableLayout}
use Rattle.books_schema.specs.declared.layouts.IndexLayout.{IndexLayout}

abbrev pub columns_of : TableLayout → List Column
columns_of l = map (λ c. column c.0.now c.1) l.columns.now

-- the table has its first column as its rowid, or a PRIMARY KEY beside the rowid
abbrev pub table_at : ℕ → TableLayout → Table
table_at tree l =
    if l.has_id then id_table tree l.name.now (columns_of l) else keyed_table tree l.name.now (columns_of l) l.places.now

abbrev pub table_of : TableLayout → Table
table_of l = table_at l.tree l

-- the tables of the books, and then others that refer to none
pub record BeginsWithTables (tables : List Table) : Type 0 where
  pub others : List Table
  pub is : tables ≡ the_tables ++ others
  pub apart : list_all refers_to_none others ≡ true

-- the index of a key of the table in this tree, behind it
abbrev pub key_at : List ℕ → ℕ → List ℕ → Index
key_at name table columns = record { name = name; tree = table + 1; table = table; columns = columns; order = plain; is_unique = true }

abbrev pub key_of : IndexLayout → Index
key_of l = key_at l.name.now l.table l.columns.now

-- the name, the tree of the table and the columns of an index that is not UNIQUE
abbrev pub PlainIndex : Type 0
PlainIndex = List ℕ × ℕ × List ℕ

-- whether it is such an index, in whatever tree
abbrev pub is_of : PlainIndex → Index → Bool
is_of l i = bytes_eq i.name l.0 && (nat_eq i.table l.1 && (bytes_eq i.columns l.2 && (nat_eq i.order.digits 0 && not i.is_unique)))
