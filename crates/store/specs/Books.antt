-- The books of a history.
use Rattle.std.specs.Prelude.{◌≡◌, List, ℤ, IsTrue}
use Rattle.store.specs.Words.{Ghosts, State, HasCleanDisk, KeepsCommit, state, Trees, IsReady, TellTables, Act, today}
pub use Rattle.slices.specs.Books.{AreRowsOf, IsBooksOf}
use Rattle.store.specs.Connected.{Connected}

-- as long as a fault of the disk has not shut the connection, it shows the books of the acts, and all is committed
pub record KeepsBooks (first : ℤ) (acts : List Act) (s : State) : Type 0 where
  pub books : IsTrue s.is_open → IsBooksOf first acts s.now
  pub settled : IsTrue s.is_open → s.committed ≡ s.now

-- it shows tables of our schema, of whatever origin, and all is committed
pub record IsSettled (s : State) : Type 0 where
  pub ready : IsTrue s.is_open → IsReady s.now
  pub settled : IsTrue s.is_open → s.committed ≡ s.now

-- nothing was committed, and as long as a fault of the disk has not shut the connection, it shows the tables that it showed
pub record IsAsBefore (old new : State) : Type 0 where
  pub kept : KeepsCommit old new
  pub shows : IsTrue new.is_open → new.now ≡ old.now

-- what a stop leaves are the books of the acts: their rows, under a schema that the next opening takes as theirs
pub record AreBooks (first : ℤ) (acts : List Act) (trees : Trees) : Type 0 where
  pub rows : AreRowsOf first acts trees
  pub schema : TellTables trees

-- a stop leaves the books of the acts and nothing else
abbrev pub LeavesOnly : ℤ → List Act → State → Type 0
LeavesOnly first acts s = (trees : Trees) → s.may_leave trees → AreBooks first acts trees

-- so far the disk has returned what was written: the books are in memory, or in a file that nobody else writes
abbrev pub IsClean : {S : Type 0} → Ghosts S → Connected S → Type 0
IsClean g books = HasCleanDisk (state g books.conn)

-- nothing was committed, and the books show the tables that they showed
abbrev pub AreAsBefore : {S : Type 0} → Ghosts S → Connected S → Connected S → Type 0
AreAsBefore g old new = IsAsBefore (state g old.conn) (state g new.conn)

-- what a stop leaves, as the next opening finds it
abbrev pub MayLeave : {S : Type 0} → Ghosts S → Connected S → Trees → Type 0
MayLeave g books = (state g books.conn).may_leave

-- the business day of the books
abbrev pub day_of : {S : Type 0} → Connected S → ℤ
day_of books = books.day

-- the books are those of the acts
pub record HoldsBooks {S : Type 0} (g : Ghosts S) (first : ℤ) (acts : List Act) (books : Connected S) : Type 0 where
  pub keeps : KeepsBooks first acts (state g books.conn)
  pub day : day_of books ≡ today first acts
