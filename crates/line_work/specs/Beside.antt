-- A file of acts that is opened beside their books, whatever the file has.
use Rattle.std.specs.Prelude.{◌≡◌, ◌≢◌, ◌⊎◌, ◌≤◌, ℕ, ℤ, List, [], ◌++◌, length, Result, Err, IsTrue}
use Rattle.line_work.specs.Words.{Ghosts, StoreGhosts, Held, state, Act, KeepsBooks, LeavesOnly, ActsFile, ActsFault, Fault}
use Rattle.histories.specs.Reading.{IsLine}
use Rattle.applies.specs.Begun.{BegunOn, FitsLine}
use Rattle.acts_files.specs.Faults.{IsNoMisfit}
use Rattle.acts_files.specs.Opened.{IsOwn, IsOpened, IsNotOpened, LeavesOldest}
use Rattle.acts_files.specs.declared.opening.NotOpened.{NotOpened}
use Rattle.line_work.specs.Faults.{fault_of_acts}

-- The file is that of these acts: it has the lines of the oldest, begun on any day on which the acts can have begun, and behind them at
-- most what a stop leaves of the next ones. One that has no whole line is empty.
pub record IsOwnBeside {D : Type 0} (g : Ghosts D) (first : ℤ) (acts : List Act) (disk : D) : Type 0 where
  pub begun : ℤ
  pub day : BegunOn first acts begun
  pub own : IsOwn g begun acts disk
  pub some : (own.older ≢ []) ⊎ (own.tail ≡ [])

-- the first line of the file may be one of the acts, and has the business day that it has where these began on this day
abbrev pub FitsFile : {D : Type 0} → Ghosts D → (first : ℤ) → List Act → D → (day : ℤ) → Type 0
FitsFile g first acts disk day = (line more : List ℕ) → g.seen disk ≡ line ++ more → IsLine line → length line ≤ 8_192 → FitsLine first acts line day

module _ {D : Type 0} (g : Ghosts D) (first : ℤ) (acts : List Act) (disk : D) where
  -- it has the lines of all acts now, and had those of the oldest, begun on a day on which the acts can have begun
  pub record IsOpenedBeside (file : ActsFile D) : Type 0 where
    pub begun : ℤ
    pub day : BegunOn first acts begun
    pub opened : IsOpened g begun acts disk file

  -- It has other lines, or could not be read or written. No line of its own is told as one in which it and the books part, and nothing
  -- came behind them but lines of the acts, and part of what was being added.
  pub record IsNotOpenedBeside (e : NotOpened D) : Type 0 where
    pub begun : ℤ
    pub day : BegunOn first acts begun
    pub not_opened : IsNotOpened g begun acts disk e
    pub own : IsTrue (g.is_clean e.disk) → IsOwnBeside g first acts disk → IsNoMisfit e.fault
    pub leaves : LeavesOldest g begun acts disk e.disk

-- The file does not keep the acts, and that is told. Nothing else was done: the books are those of the acts, now and after a stop.
pub record IsRefusedBeside {S D : Type 0} (s : StoreGhosts S) (g : Ghosts D) (first : ℤ) (acts : List Act) (disk : D) (conn : Held S) (end : Result Unit Fault) (new : D) : Type 0 where
  pub fault : ActsFault
  pub not_opened : IsNotOpenedBeside g first acts disk (record { disk = new; fault = fault })
  pub told : end ≡ Err (fault_of_acts fault)
  pub keeps : KeepsBooks first acts (state s conn)
  pub leaves : LeavesOnly first acts (state s conn)
