-- What is shown of the books.
use Rattle.std.specs.Prelude.{◌≡◌, List, Option, Some, None, Result, Ok, Err, ℤ, IsTrue, OnOk}
use Rattle.store.specs.Words.{Tables, Refusal, State, HasCleanDisk, KeepsCommit, IsReady, tables_in, Act, tables_of, IsBooksOf, Known}
use Rattle.slices.specs.Remembering.{KnowsRows}
use Rattle.slices.specs.declared.rows_known.RowsKnown.{RowsKnown}
use Rattle.queries.specs.Asked.{IsKnownOf}
use Rattle.store.specs.Books.{KeepsBooks}
use Rattle.store.specs.declared.fault.Fault.{Fault}
use Rattle.store.specs.declared.fault.Fault.TheVariants.{Refused, Store, Foreign}

-- a view is shown, or refused, as the machine does it
abbrev pub IsShownAs : {V : Type 0} → Result V Refusal → Result V Fault → Type 0
IsShownAs shown (Ok view) = shown ≡ Ok view
IsShownAs shown (Err (Refused why)) = shown ≡ Err why
IsShownAs shown (Err Store) = Unit {0}
IsShownAs shown (Err Foreign) = ⊥

-- what was read is so, or memory or the disk did not suffice
abbrev pub IsFoundAs : {X : Type 0} → (X → Type 0) → Result X Fault → Type 0
IsFoundAs Read (Ok found) = Read found
IsFoundAs Read (Err fault) = fault ≡ Store

-- A look within a transaction, told what is known of the books and, beside it, of their rows: what it finds is so in the tables
-- of the books, what is known of their rows after it is so, and nothing is committed.
pub record Looks {X : Type 0} (is_in : Tables → X → Type 0) (known : Option Known) (rows after : RowsKnown) (result : Result X Fault) (old new : State) : Type 0 where
  pub found : HasCleanDisk new → (first : ℤ) (acts : List Act) → (IsTrue old.is_open → IsBooksOf first acts old.now)
      → (IsTrue old.is_open → IsKnownOf known (tables_in old.now.trees) × KnowsRows (tables_in old.now.trees) rows) → IsFoundAs (is_in (tables_of first acts)) result
  pub knows : HasCleanDisk new → (IsTrue old.is_open → IsReady old.now)
      → (IsTrue old.is_open → IsKnownOf known (tables_in old.now.trees) × KnowsRows (tables_in old.now.trees) rows) → OnOk result (KnowsRows (tables_in old.now.trees) after)
  pub kept : HasCleanDisk new → (IsTrue old.is_open → IsReady old.now) → KeepsCommit old new

-- and the connection keeps the books
abbrev pub IsShownOn : {V : Type 0} → ℤ → List Act → Result V Refusal → Result V Fault → State → Type 0
IsShownOn first acts shown result new = IsShownAs shown result × KeepsBooks first acts new

-- a view that is not whole is of no books
abbrev pub told_whole : {V : Type 0} → Result (Option V) Fault → Result V Fault
told_whole (Ok (Some view)) = Ok view
told_whole (Ok None) = Err Foreign
told_whole (Err fault) = Err fault
