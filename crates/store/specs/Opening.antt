-- What making books and opening them leave.
use Rattle.std.specs.Prelude.{◌≡◌, ◌⊎◌, ◌≤◌, List, ℕ, ℤ, true, false, None, [], IsTrue}
use Rattle.store.specs.Words.{Ghosts, Held, state, State, HasCleanDisk, Survives, Trees, IsReady, AreTypedAt, HasDayIn, IsReadyAs, AreReadTyped, KeepsRowsAs, ComesTo, IsClosed, TellTables, Act, tables_of}
use Rattle.sqlite_trees.specs.View.{IsClean, doubt}
use Rattle.books_schema.specs.Bringing.{as_older, as_brought, older_tables_in, AreOlderTyped}
use Rattle.books_schema.specs.Keeping.{KeepsRows}
use Rattle.books_schema.specs.Older.{number}
pub use Rattle.books_schema.specs.Opening.{HasSchema, IsOfNone, Tells}
use Rattle.books_schema.specs.Settling.{third_tables_in, IsRaised}
pub use Rattle.books_schema.specs.declared.ready_connection.Found.{Found}
use Rattle.books_schema.specs.declared.ready_connection.Found.TheVariants.{Newest, Older}
use Rattle.books_schema.specs.declared.older.OlderBooks.{OlderBooks}
use Rattle.books_schema.specs.declared.ready_connection.Leftover.{Leftover}
use Rattle.books_schema.specs.declared.ready_connection.Leftover.TheVariants as left
use Rattle.machine.specs.Schemas.{are_of_schema}
use Rattle.store.specs.Books.{AreRowsOf, AreBooks}

-- Books that are found

-- the number of books of schema 3
abbrev pub third_number : ℕ
third_number = 3

-- the rows of books of schema 3 are those of the acts: its commands and its tables are the newest, and the number of the row
-- of `meta` alone is another
pub record AreThirdRowsOf (first : ℤ) (acts : List Act) (trees : Trees) : Type 0 where
  pub tables : third_tables_in trees ≡ tables_of first acts
  pub typed : AreTypedAt third_number trees

-- the rows of older books are those of the acts: the newest tables that they come to are
pub record AreOlderRowsOf (older : OlderBooks) (first : ℤ) (acts : List Act) (trees : Trees) : Type 0 where
  pub tables : as_brought older (older_tables_in older trees) ≡ tables_of first acts
  pub typed : AreOlderTyped older trees

-- as a program of that schema leaves them: its tables are those of the acts, none of which has a command of a newer schema
pub record AreLeftByOlder (older : OlderBooks) (first : ℤ) (acts : List Act) (trees : Trees) : Type 0 where
  pub tables : older_tables_in older trees ≡ as_older older (tables_of first acts)
  pub typed : AreOlderTyped older trees
  pub older_acts : are_of_schema (number older) acts ≡ true

-- the rows are those of the acts, as these books have them
abbrev pub AreRowsAt : Found → ℤ → List Act → Trees → Type 0
AreRowsAt Newest first acts trees = AreRowsOf first acts trees ⊎ AreThirdRowsOf first acts trees
AreRowsAt (Older older) first acts trees = AreOlderRowsOf older first acts trees

-- what a program of an older schema leaves are rows of the acts
abbrev pub OlderRowsGoOn : Type 0
OlderRowsGoOn = (older : OlderBooks) (first : ℤ) (acts : List Act) (trees : Trees) → AreLeftByOlder older first acts trees → AreRowsAt (Older older) first acts trees

-- as books of the newest schema or of an older one have them
abbrev pub AreFoundRows : ℤ → List Act → Trees → Type 0
AreFoundRows first acts trees = (found : Found) × AreRowsAt found first acts trees

-- the schema is that of some books, under a number of theirs the row of `meta` has this day, and what else is read of them
-- keeps the rules of its values
pub record HasFoundDay (old : State) (day : ℤ) : Type 0 where
  pub found : Found
  pub schema : HasSchema found old.now.schema
  pub has : HasDayIn found old.committed.trees day
  pub read : AreReadTyped found old.committed.trees

-- the schema is that of some books, but the row of `meta` or another row that is read does not keep the rules of its values
pub record IsForeignWithin (old : State) : Type 0 where
  pub found : Found
  pub schema : HasSchema found old.now.schema
  pub foreign : (day : ℤ) → HasDayIn found old.committed.trees day → ¬ AreReadTyped found old.committed.trees

-- what a stop leaves of books that were found: their rows, which tell their schema, or the newest tables under the newest
-- number, which come of them
abbrev pub MayCome : Found → Trees → Trees → Type 0
MayCome Newest old db = (KeepsRows old db ⊎ IsRaised old db) × TellTables db
MayCome (Older older) old db = ((db ≡ old) × Tells (Older older) db) ⊎ (ComesTo (Older older) old db × TellTables db)

-- the state with no limit on steps
abbrev pub unlimited : State → State
unlimited s = record s { step_limit = None }

module _ {S : Type 0} (g : Ghosts S) (old : Held S) where
  -- the connection, outside a transaction, with its tables as they were; a crash leaves them or the first tables of this day
  pub record IsUnfilled (day : ℤ) (new : Held S) : Type 0 where
    pub outside : new.in_transaction ≡ false
    pub tables : HasCleanDisk (state g new) → IsTrue (state g new).is_open → (state g new).now ≡ (state g old).now
    pub settled : HasCleanDisk (state g new) → IsTrue (state g new).is_open → (state g new).committed ≡ (state g new).now
    pub survives : Survives (state g old) (state g new) (AreBooks day [])

  abbrev pub IsLeftUnfilled : ℤ → Leftover S → Type 0
  IsLeftUnfilled day (left.Connection conn) = IsUnfilled day conn
  IsLeftUnfilled day (left.Store s) = ⊥

  -- a connection that was found open: its tables are the newest, and come of the rows of the last commit
  pub record IsOpenedFrom (new : Held S) : Type 0 where
    pub found : Found
    pub schema : HasSchema found (state g old).now.schema
    pub outside : new.in_transaction ≡ false
    pub ready : HasCleanDisk (state g new) → IsTrue (state g new).is_open → IsReady (state g new).now
    pub comes : HasCleanDisk (state g new) → IsTrue (state g new).is_open → ComesTo found (state g old).committed.trees (state g new).now.trees
    pub settled : HasCleanDisk (state g new) → IsTrue (state g new).is_open → (state g new).committed ≡ (state g new).now
    pub crash : HasCleanDisk (state g new) → (db : Trees) → (state g new).may_leave db → MayCome found (state g old).committed.trees db
    pub clean : doubt (state g old).is_clean ≤ doubt (state g new).is_clean
    pub shield : (state g old).IsShielded → (state g new).IsShielded

  -- one whose tables have the rows of the last commit, as they were found
  pub record IsOpenedAsFound (new : Held S) : Type 0 where
    pub found : Found
    pub schema : HasSchema found (state g old).now.schema
    pub outside : new.in_transaction ≡ false
    pub ready : HasCleanDisk (state g new) → IsTrue (state g new).is_open → IsReadyAs found (state g new).now
    pub same : HasCleanDisk (state g new) → IsTrue (state g new).is_open → KeepsRowsAs found (state g old).committed.trees (state g new).now.trees
    pub settled : HasCleanDisk (state g new) → IsTrue (state g new).is_open → (state g new).committed ≡ (state g new).now
    pub crash : HasCleanDisk (state g new) → (db : Trees) → (state g new).may_leave db → MayCome found (state g old).committed.trees db
    pub clean : doubt (state g old).is_clean ≤ doubt (state g new).is_clean
    pub shield : (state g old).IsShielded → (state g new).IsShielded

  -- the connection as it was, or one that was found open, or its store
  abbrev pub IsLeftOver : Leftover S → Type 0
  IsLeftOver (left.Connection conn) = (conn ≡ old) ⊎ IsOpenedAsFound conn
  IsLeftOver (left.Store s) = IsClosed g old s

-- so far the disk has returned what was written
abbrev pub IsCleanLeft : {S : Type 0} → Ghosts S → Leftover S → Type 0
IsCleanLeft g (left.Connection conn) = HasCleanDisk (state g conn)
IsCleanLeft g (left.Store s) = IsClean (g.view s)
