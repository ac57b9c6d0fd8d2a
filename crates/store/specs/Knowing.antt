-- What the books know of their tables.
use Rattle.std.specs.Prelude.{◌≡◌, Bool, true, false, Option, Result, IsTrue, IfSome, OnOk, is_ok}
use Rattle.store.specs.Words.{Tables, State, HasCleanDisk, IsReady, tables_in, Known}
use Rattle.slices.specs.Slicing.{HoldsOf, HoldsBeside}
use Rattle.store.specs.Books.{IsSettled}

-- once it has been read, what is known of the tables is so
abbrev pub HasKnown : Option Known → State → Type 0
HasKnown known s = IfSome known (λ k. HoldsOf k (tables_in s.now.trees))

-- the connection is settled, and as long as no fault of the disk has shut it, what is known of the tables that it shows is so
abbrev pub IsKnown : Option Known → State → Type 0
IsKnown known s = HasCleanDisk s → IsSettled s × (IsTrue s.is_open → HasKnown known s)

-- a call that answers within a transaction: it goes on, and what is known of the tables that it leaves is so, if it was before
abbrev pub GoesOnKnown : {X E : Type 0} → Option Known → Option Known → Result X E → State → State → Type 0
GoesOnKnown known after result old new = OnOk result (IsTrue old.is_open × IsReady new.now × (new.in_transaction ≡ old.in_transaction) × (HasKnown known old → HasKnown after new))

-- what is known of the tables as they were before a call: all of it, or what is known beside rows once the call has answered
abbrev pub HoldsLeft : Bool → Known → Tables → Type 0
HoldsLeft true known t = HoldsBeside known t
HoldsLeft false known t = HoldsOf known t

abbrev pub HasLeft : Bool → Option Known → Tables → Type 0
HasLeft answered known t = IfSome known (λ k. HoldsLeft answered k t)

-- what is known of the tables before is not lost where it fails, and beside rows where it answers
pub record LeavesKnown {X E : Type 0} (known after : Option Known) (result : Result X E) (old new : State) : Type 0 where
  pub before : HasKnown known old → HasLeft (is_ok result) after (tables_in old.now.trees)
  pub answered : GoesOnKnown known after result old new
