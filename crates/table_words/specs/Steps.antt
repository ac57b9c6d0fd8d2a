-- What a call makes of the tables.
use Rattle.std.specs.Prelude.{◌≡◌, ◌⊎◌, false, Result, Err, IsTrue}
use Rattle.std.specs.List.{AllByRecursion}
use Rattle.sqlite.specs.State.{State}
use Rattle.sqlite.specs.Effect.{Database}
use Rattle.sqlite_catalog.specs.Listing.{IsSound}
use Rattle.table_words.specs.Schema.{the_tables, schema_with, HasTables}
use Rattle.table_words.specs.Rows.{IsRows}
use Rattle.table_words.specs.Typed.{Tables, tables_in, AreTyped}
use Rattle.table_words.specs.declared.error.TableFault.{TableFault}
use Rattle.table_words.specs.declared.error.TableFault.TheVariants.{Store}
use Rattle.sqlite.specs.declared.error.Error.TheVariants.{SqliteFailure}
use Rattle.sqlite.specs.declared.error.ErrorCode.TheVariants.{TooBig}

-- the database has the tables and keeps the rules of its schema, and the rowids of each table rise
pub record IsReady (db : Database) : Type 0 where
  pub has : HasTables db.schema
  pub rows : AllByRecursion (λ t. IsRows (db.trees t.tree)) the_tables
  pub sound : IsSound (schema_with has.rest) db.trees

-- the tables are these, and the transaction goes on
pub record Goes (to : Tables → Tables) (old new : State) : Type 0 where
  pub ready : IsReady new.now
  pub tables : tables_in new.now.trees ≡ to (tables_in old.now.trees)
  pub mode : new.in_transaction ≡ old.in_transaction
  pub typed : AreTyped old.now.trees → AreTyped new.now.trees

-- the transaction is undone: as long as the connection is open, it shows what the last commit left, and nothing else is committed
pub record IsUndone (old new : State) : Type 0 where
  pub was_open : IsTrue new.is_open → IsTrue old.is_open
  pub undone : IsTrue new.is_open → (new.now ≡ old.committed) × (new.committed ≡ old.committed)
  pub autocommit : new.in_transaction ≡ false

-- what a call leaves that is refused: the tables as they were, in a transaction that goes on, or the whole transaction is undone
abbrev pub ChangesNone : State → State → Type 0
ChangesNone old new = Goes (λ t. t) old new ⊎ IsUndone old new

-- the call was refused for size, and nothing was done
abbrev pub IsTooBig : {X S : Type 0} → Result X TableFault → S → S → Type 0
IsTooBig result old new = (result ≡ Err (Store (SqliteFailure TooBig))) × (new ≡ old)
