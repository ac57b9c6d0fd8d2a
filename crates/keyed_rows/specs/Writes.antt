-- What a call that writes does.
use Rattle.std.specs.Prelude.{◌≡◌, ◌≢◌, ℕ, Bool, List, [], ◌∷◌, false, IsTrue, if◌then◌else◌, Result, IfOk, OnOk, OnErr, IfErr}
use Rattle.keyed_rows.specs.Words.{Row, State, HasCleanDisk, Survives, KeepsCommit, Tables, IsReady, Goes, ChangesNone, AreTyped, Counts, TableFault, Foreign}
use Rattle.sqlite.specs.Store.{Ghosts}
use Rattle.sqlite.specs.Held.{Held, state}

-- As long as the disk is clean, a call that answers makes this of the tables, by its answer, where the books are ready.
-- Whatever it answers, nothing is committed.
pub record WritesBy {X : Type 0} (to : X → Tables → Tables) (old new : State) (result : Result X TableFault) : Type 0 where
  pub done : HasCleanDisk new → IsReady old.now → IfOk result (λ x. Goes (to x) old new)
  pub kept : HasCleanDisk new → KeepsCommit old new
  pub survives : Survives old new (λ _. ⊥)
  pub never_foreign : IfErr result (λ e. e ≢ Foreign)

abbrev pub Writes : {X : Type 0} → (Tables → Tables) → State → State → Result X TableFault → Type 0
Writes {X} to = WritesBy {X = X} (λ _. to)

-- this, where it was done at all
abbrev pub if_done : (Tables → Tables) → Bool → Tables → Tables
if_done to did t = if did then to t else t

-- a call that is refused leaves the tables as they were
abbrev pub Spares : {X : Type 0} → State → State → Result X TableFault → Type 0
Spares old new result = HasCleanDisk new → IsReady old.now → OnErr result (ChangesNone old new)

-- where each stored row is typed after a call that answers, each was before it
abbrev pub WereTyped : {X : Type 0} → State → State → Result X TableFault → Type 0
WereTyped old new result = HasCleanDisk new → IsReady old.now → OnOk result (AreTyped new.now.trees → AreTyped old.now.trees)

-- a statement ran inside the transaction and wrote so many rows, or it was refused
pub record Ran {S : Type 0} (g : Ghosts S) (sql : List ℕ) (params : Row) (old new : Held S) (result : Result ℕ TableFault) : Type 0 where
  pub ran : HasCleanDisk (state g new) → IfOk result (λ n. Counts n sql params (state g old) (state g new))
  pub refused : Spares (state g old) (state g new) result
  pub outside : (state g old).in_transaction ≡ false → new ≡ old
  pub kept : HasCleanDisk (state g new) → KeepsCommit (state g old) (state g new)
  pub survives : Survives (state g old) (state g new) (λ _. ⊥)
  pub never_foreign : IfErr result (λ e. e ≢ Foreign)

-- one statement, which runs inside a transaction and else does nothing
pub record WritesInside {X S : Type 0} (g : Ghosts S) (to : X → Tables → Tables) (old new : Held S) (result : Result X TableFault) : Type 0 where
  pub writes : WritesBy to (state g old) (state g new) result
  pub refused : Spares (state g old) (state g new) result
  pub inside : HasCleanDisk (state g new) → OnOk result (IsTrue (state g old).in_transaction)
  pub outside : (state g old).in_transaction ≡ false → new ≡ old

-- each row in turn makes this of the tables
abbrev pub each_written : {R : Type 0} → (R → Tables → Tables) → List R → Tables → Tables
each_written write [] t = t
each_written write (r ∷ rs) t = each_written write rs (write r t)
