-- The business day that is stored, and what books with the newest tables come to as it is read.
use Rattle.std.specs.Prelude.{◌≡◌, ◌⊎◌, ◌↔◌, ℕ, ℤ, true, Some, option_map}
use Rattle.std.specs.List.{AllByRecursion}
use Rattle.commands.specs.declared.limits.TheConstants.{SCHEMA_VERSION}
use Rattle.books_schema.specs.Words.{MetaRow, State, Trees, IsReady, Tables, tables_in, is_meta_at, meta_rows_rows, meta_at, AreTyped, AreTypedAt}
use Rattle.books_schema.specs.Keeping.{KeepsRows}
use Rattle.books_schema.specs.declared.settling.TheConstants.{THIRD}

-- in books of this schema number the row of `meta` keeps the rules of its values, and is this one
pub record HasRow (version : ℕ) (trees : Trees) (row : MetaRow) : Type 0 where
  pub typed : AllByRecursion (λ r. is_meta_at version r ≡ true) (meta_rows_rows 1 trees)
  pub found : meta_at version trees ≡ Some row

-- it keeps them, and has this business day
pub record HasDayAt (version : ℕ) (trees : Trees) (day : ℤ) : Type 0 where
  pub typed : AllByRecursion (λ r. is_meta_at version r ≡ true) (meta_rows_rows 1 trees)
  pub found : option_map (λ (m : MetaRow). m.day) (meta_at version trees) ≡ Some day

-- Books of schema 3 have the newest tables: it is the number in the row of `meta` that tells them.

-- in books with the newest tables, of either number
abbrev pub HasDay : Trees → ℤ → Type 0
HasDay trees day = HasDayAt SCHEMA_VERSION trees day ⊎ HasDayAt THIRD trees day

-- what the tables read as in books of schema 3
abbrev pub third_tables_in : Trees → Tables
third_tables_in trees = record (tables_in trees) { meta = meta_at THIRD trees }

-- the number is the newest, and the tables have the rows that they had
pub record IsKept (old new : Trees) : Type 0 where
  pub day : ℤ
  pub has : HasDayAt SCHEMA_VERSION old day
  pub rows : KeepsRows old new

-- the number was 3 and is the newest now, and the tables read as they did; each row is typed exactly where each was
pub record IsRaised (old new : Trees) : Type 0 where
  pub day : ℤ
  pub has : HasDayAt THIRD old day
  pub tables : tables_in new ≡ third_tables_in old
  pub typed : AreTypedAt THIRD old ↔ AreTyped new

-- the books have the newest number, as they had before or since now
abbrev pub IsNumbered : Trees → Trees → Type 0
IsNumbered old new = IsKept old new ⊎ IsRaised old new

-- in a transaction that goes on they do
pub record Numbers (old new : State) : Type 0 where
  pub ready : IsReady new.now
  pub comes : IsNumbered old.now.trees new.now.trees
  pub mode : new.in_transaction ≡ old.in_transaction

-- they do, and all is committed
pub record IsSettledAt (old : Trees) (new : State) : Type 0 where
  pub ready : IsReady new.now
  pub comes : IsNumbered old new.now.trees
  pub settled : new.committed ≡ new.now

-- the tables have the rows that they had, and all is committed
pub record IsStill (old : Trees) (new : State) : Type 0 where
  pub ready : IsReady new.now
  pub rows : KeepsRows old new.now.trees
  pub settled : new.committed ≡ new.now
