-- The numbers of rows are within the bounds of their columns.
use Rattle.std.specs.Prelude.{◌≡◌, true, List, Some, ℤ}
use Rattle.store.specs.Words.{Tables, Act, IsHistory, tables_of}
use Rattle.whole_tables.specs.declared.key.TableName.{TableName}
use Rattle.whole_tables.specs.Family.{Row, Key, described, look}

-- those of each row of each table
abbrev pub AreFitting : Tables → Type 0
AreFitting t = (n : TableName) (k : Key n) (row : Row n) → look n t k ≡ Some row → (described n).fits row ≡ true

-- a table refuses no row of a history for its size
abbrev pub RowsOfActsFit : Type 0
RowsOfActsFit = (first : ℤ) (acts : List Act) → IsHistory first acts → AreFitting (tables_of first acts)
