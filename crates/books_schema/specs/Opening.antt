-- Which trees and schemas are those of books, what they come to, and what is left of a connection that was not opened.
use Rattle.std.specs.Prelude.{◌≡◌, ◌≤◌, ℤ, IsTrue, ⊤}
use Rattle.books_schema.specs.Words.{Schema, Trees, HasTables, Ghosts, IsClean, doubt, Held, state, Database, State, IsReady}
use Rattle.sqlite_catalog.specs.Listing.{IsSound}
use Rattle.books_schema.specs.Bringing.{AreFillersTyped, IsOlderReady, IsBrought}
use Rattle.books_schema.specs.Keeping.{KeepsRows}
use Rattle.books_schema.specs.Older.{number, IsOlderSchema, KeepsOlderRows}
use Rattle.books_schema.specs.Settling.{HasDayAt, HasDay, IsNumbered}
use Rattle.books_schema.specs.declared.ready_connection.Found.{Found}
use Rattle.books_schema.specs.declared.ready_connection.Found.TheVariants.{Newest, Older}
use Rattle.books_schema.specs.declared.ready_connection.Leftover.{Leftover}
use Rattle.books_schema.specs.declared.ready_connection.Leftover.TheVariants as left

-- the schema is that of these books
abbrev pub HasSchema : Found → Schema → Type 0
HasSchema Newest schema = HasTables schema
HasSchema (Older older) schema = IsOlderSchema older schema

-- and of none
abbrev pub IsOfNone : Schema → Type 0
IsOfNone schema = (found : Found) → ¬ HasSchema found schema

-- the database is that of these books, and in order
abbrev pub IsReadyAs : Found → Database → Type 0
IsReadyAs Newest db = IsReady db
IsReadyAs (Older older) db = IsOlderReady older db

-- the row of `meta` has this day, under a number that these books may have
abbrev pub HasDayIn : Found → Trees → ℤ → Type 0
HasDayIn Newest trees day = HasDay trees day
HasDayIn (Older older) trees day = HasDayAt (number older) trees day

-- the rows that are read as they are opened, beside that of `meta`, read as typed ones
abbrev pub AreReadTyped : Found → Trees → Type 0
AreReadTyped Newest trees = ⊤
AreReadTyped (Older older) trees = AreFillersTyped older trees

-- their tables have the rows that they had
abbrev pub KeepsRowsAs : Found → Trees → Trees → Type 0
KeepsRowsAs Newest old new = KeepsRows old new
KeepsRowsAs (Older older) old new = KeepsOlderRows older old new

-- the newest tables, which come of their rows
abbrev pub ComesTo : Found → Trees → Trees → Type 0
ComesTo Newest old new = IsNumbered old new
ComesTo (Older older) old new = IsBrought older old new

-- the connection shows the newest tables, and all is committed
pub record IsCome (found : Found) (old : Trees) (new : State) : Type 0 where
  pub ready : IsReady new.now
  pub comes : ComesTo found old new.now.trees
  pub settled : new.committed ≡ new.now

-- it is open, and shows what is committed
pub record IsOpenAndSettled (s : State) : Type 0 where
  pub is_open : IsTrue s.is_open
  pub clean : s.now ≡ s.committed

-- it shows the tables as they were found, and all is committed
pub record IsLeftAs (found : Found) (old : Trees) (new : State) : Type 0 where
  pub ready : IsReadyAs found new.now
  pub rows : KeepsRowsAs found old new.now.trees
  pub settled : new.committed ≡ new.now

-- whichever schema these trees keep the rules of is that of these books
abbrev pub Tells : Found → Trees → Type 0
Tells found trees = (schema : Schema) → IsSound schema trees → HasSchema found schema

-- or has the newest tables
abbrev pub TellTables : Trees → Type 0
TellTables trees = Tells Newest trees

module _ {S : Type 0} (g : Ghosts S) (old : Held S) where
  -- the store of the connection, which still has the tables of the last commit; a crash leaves nothing new
  pub record IsClosed (s : S) : Type 0 where
    pub clean : doubt (state g old).is_clean ≤ doubt (g.view s).is_clean
    pub shield : (state g old).IsShielded → g.is_shielded s
    pub outcomes : IsClean (g.view s) → (db : Trees) → g.recovers s db → (state g old).may_leave db
    pub tables : IsClean (g.view s) → IsTrue (g.view s).is_open → (g.view s).trees ≡ (state g old).committed.trees

  -- the connection itself, or its store
  abbrev pub IsLeft : Leftover S → Type 0
  IsLeft (left.Connection conn) = conn ≡ old
  IsLeft (left.Store s) = IsClosed s
