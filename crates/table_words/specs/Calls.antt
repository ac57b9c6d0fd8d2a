-- What a statement that is run inside a transaction does.
use Rattle.std.specs.Prelude.{◌≡◌, ℕ, Bool, true, List, Ok, IsTrue, map}
use Rattle.std.specs.List.{AllByRecursion}
use Rattle.sqlite_value.specs.Order.{Row}
use Rattle.sqlite.specs.State.{State, ExecutesInside, Shown}

-- it ran inside the transaction, and wrote so many rows
pub record Counts (count : ℕ) (sql : List ℕ) (params : Row) (old new : State) : Type 0 where
  pub inside : IsTrue old.in_transaction
  pub executes : ExecutesInside 0 sql params old new (Ok count)

-- the query showed rows of the table, and these are what they read as
pub record Reads {X : Type 0} (has : Row → Bool) (read : Row → X) (sql : List ℕ) (params : Row) (old new : State) (found : List X) : Type 0 where
  pub rows : List Row
  pub shown : Shown sql params old new rows
  pub typed : AllByRecursion (λ v. has v ≡ true) rows
  pub read_as : map read rows ≡ found

-- the query showed a row that the table cannot have
pub record ShowsForeign (has : Row → Bool) (sql : List ℕ) (params : Row) (old new : State) : Type 0 where
  pub rows : List Row
  pub shown : Shown sql params old new rows
  pub untyped : ¬ AllByRecursion (λ v. has v ≡ true) rows
