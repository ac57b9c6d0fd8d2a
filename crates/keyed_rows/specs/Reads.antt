-- What a call that reads answers and leaves.
use Rattle.std.specs.Prelude.{◌≡◌, ℕ, Bool, true, List, Vec, Result, OnOk, OnErr, IfOk, IfErr}
use Rattle.std.specs.List.{AllByRecursion}
use Rattle.keyed_rows.specs.Words.{Row, IsPlain, understood, Trees, State, HasCleanDisk, Survives, KeepsCommit, IsUnchanged, Tables, Reads, ShowsForeign, tables_in, IsReady, ChangesNone, TableFault, Foreign}

-- a query ran, and its rows were read
pub record Queried {X A : Type 0} (has : Row → Bool) (read : Row → X) (sql : List ℕ) (params : Row) (old new : State) (result : Result (Vec X A) TableFault) : Type 0 where
  pub rows : HasCleanDisk new → IfOk result (λ found. Reads has read sql params old new found.items)
  pub foreign : HasCleanDisk new → IfErr result (λ e. e ≡ Foreign → ShowsForeign has sql params old new)
  pub same : HasCleanDisk new → IsPlain (understood old.now.schema sql) → OnOk result (IsUnchanged old new)
  pub refused : HasCleanDisk new → IsPlain (understood old.now.schema sql) → IsReady old.now → OnErr result (ChangesNone old new)
  pub kept : HasCleanDisk new → IsPlain (understood old.now.schema sql) → KeepsCommit old new
  pub survives : Survives old new (λ _. ⊥)

-- the rows that are sought were read, and nothing was changed: it answers only where each of those stored is typed, and `Foreign`
-- only where one is not
pub record Finds {X A : Type 0} (are : Tables → List X → Type 0) (is : Row → Bool) (stored : Trees → List Row) (old new : State) (result : Result (Vec X A) TableFault) : Type 0 where
  pub rows : HasCleanDisk new → IsReady old.now → IfOk result (λ found. are (tables_in old.now.trees) found.items)
  pub typed : HasCleanDisk new → IsReady old.now → OnOk result (AllByRecursion (λ r. is r ≡ true) (stored old.now.trees))
  pub foreign : HasCleanDisk new → IsReady old.now → IfErr result (λ e. e ≡ Foreign → ¬ AllByRecursion (λ r. is r ≡ true) (stored old.now.trees))
  pub same : HasCleanDisk new → IsReady old.now → OnOk result (IsUnchanged old new)
  pub refused : HasCleanDisk new → IsReady old.now → OnErr result (ChangesNone old new)
  pub kept : HasCleanDisk new → IsReady old.now → KeepsCommit old new
  pub survives : Survives old new (λ _. ⊥)
