-- What making the tables of the books leaves.
use Rattle.std.specs.Prelude.{◌≡◌, true}
use Rattle.books_schema.specs.Words.{IsDatabase, State, MetaRow, schema_0, IsReady, Tables, tables_in, no_rows, with_meta, with_bin, AreTyped}
use Rattle.commands.specs.declared.rows.BinRow.{BinRow}

-- there is nothing in the database, and a transaction goes on
pub record IsVoid (s : State) : Type 0 where
  pub schema_is : s.now.schema ≡ schema_0
  pub sound : IsDatabase s.now
  pub inside : s.in_transaction ≡ true

-- the tables with these two rows and no other
abbrev pub first_rows : MetaRow → BinRow → Tables
first_rows meta bin = with_bin bin (with_meta meta no_rows)

-- the tables have these rows, and the transaction goes on
pub record Holds (held : Tables) (s : State) : Type 0 where
  pub ready : IsReady s.now
  pub tables : tables_in s.now.trees ≡ held
  pub typed : AreTyped s.now.trees
  pub inside : s.in_transaction ≡ true
