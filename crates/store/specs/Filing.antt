-- What the rows of a file come to, and what they leave of the books.
use Rattle.std.specs.Prelude.{◌≡◌, ◌+◌, Bool, true, false, List, map, Option, Some, None, Result, Ok, Err, ℤ, IsTrue, All}
use Rattle.store.specs.Words.{Ghosts, State, HasCleanDisk, KeepsCommit, state, IsReady, Key, Command, Act, today, IsHistory, is_key_of, outcome, acts_after, tallied, FileOutcome, Taken, RefusedRow, file_outcome, acts_after_file, IsBooksOf, Known}
use Rattle.machine.specs.Once as once
use Rattle.store.specs.Acting.{day_left}
use Rattle.store.specs.Books.{KeepsBooks, HoldsBooks}
use Rattle.store.specs.Knowing.{HasKnown, GoesOnKnown}
use Rattle.store.specs.Connected.{Connected}
use Rattle.store.specs.declared.reply.Reply.{Reply}
use Rattle.store.specs.declared.fault.Fault.{Fault}
use Rattle.store.specs.declared.fault.Fault.TheVariants as fault
use Rattle.store.specs.declared.tally.Tally.{Tally}
use Rattle.store.specs.declared.tally.RowFault.{RowFault}
use Rattle.store.specs.declared.tally.RowFault.TheVariants.{Refused, Store, Foreign}
use Rattle.store.specs.declared.filing.Filed.{Filed}

-- the acts that the rows ask for
abbrev pub rows_of : List (Key × Command) → List Act
rows_of rows = map (λ r. record { key = r.0; command = r.1 }) rows

-- each key is of its command's kind
abbrev pub AreKeysOf : List (Key × Command) → Type 0
AreKeysOf rows = All (λ r. IsTrue (is_key_of r.0 r.1)) rows

-- what a tally tells of a file
abbrev pub taken : Tally → FileOutcome
taken t = Taken t.accepted t.repeated

-- a file on the books of the acts comes to what the machine says, and leaves the books of the acts after it; or the answer is `Store`,
-- and they are left
abbrev pub IsFiled : {S : Type 0} → Ghosts S → ℤ → List Act → List Act → Result Tally RowFault → Connected S → Type 0
IsFiled g first acts rows (Ok tally) new =
    (taken tally ≡ file_outcome first acts rows) × IsTrue (state g new.conn).is_open × HoldsBooks g first (acts_after_file first acts rows) new
IsFiled g first acts rows (Err (Refused row why)) new = (RefusedRow row why ≡ file_outcome first acts rows) × HoldsBooks g first acts new
IsFiled g first acts rows (Err Store) new = HoldsBooks g first acts new
IsFiled g first acts rows (Err Foreign) new = ⊥

-- Within the transaction

-- the machine's tally
abbrev pub tally_of : Tally → List Act → once.Tally
tally_of t acts = record { accepted = t.accepted; repeated = t.repeated; acts = acts; refused = None }

abbrev pub one_more : Tally → Bool → Tally
one_more t true = record { accepted = t.accepted; repeated = t.repeated + 1 }
one_more t false = record { accepted = t.accepted + 1; repeated = t.repeated }

abbrev pub counted : Filed → Command → Bool → Filed
counted so_far command repeated = record { tally = one_more so_far.tally repeated; day = day_left so_far.day command repeated }

abbrev pub fault_at : Tally → Fault → RowFault
fault_at t (fault.Refused why) = Refused (t.accepted + t.repeated + 1) why
fault_at t fault.Store = Store
fault_at t fault.Foreign = Foreign

-- the rows with one more, which went so: as far as they have come then, or its fault
abbrev pub with_row : Filed → Command → Result Reply Fault → Result Filed RowFault
with_row so_far command (Ok reply) = Ok (counted so_far command reply.repeated)
with_row so_far command (Err fault) = Err (fault_at so_far.tally fault)

-- the business day after is that of these acts, if the one before is that of those
abbrev pub DayGoes : ℤ → List Act → ℤ → List Act → ℤ → Type 0
DayGoes first acts day after left = day ≡ today first acts → left ≡ today first after

-- the transaction shows the books of the acts after, and goes on
pub record ShowsBooks (first : ℤ) (after : List Act) (old new : State) : Type 0 where
  pub history : IsHistory first after
  pub books : IsBooksOf first after new.now
  pub mode : new.in_transaction ≡ old.in_transaction

-- a row after those so far, which have led to the acts
abbrev pub IsRowTaken : ℤ → List Act → Act → Filed → Result Filed RowFault → State → State → Type 0
IsRowTaken first acts act so_far (Ok filed) old new =
    (tallied (tally_of so_far.tally acts) act (outcome first acts act) ≡ tally_of filed.tally (acts_after first acts act))
    × ShowsBooks first (acts_after first acts act) old new × DayGoes first acts so_far.day (acts_after first acts act) filed.day
IsRowTaken first acts act so_far (Err (Refused row why)) old new = (tallied (tally_of so_far.tally acts) act (outcome first acts act)).refused ≡ Some (row, why)
IsRowTaken first acts act so_far (Err Store) old new = Unit {0}
IsRowTaken first acts act so_far (Err Foreign) old new = ⊥

-- such a row within the transaction: what is known of the tables is so where it goes on, and nothing is committed
pub record TakesRow (act : Act) (known after : Option Known) (so_far : Filed) (result : Result Filed RowFault) (old new : State) : Type 0 where
  pub taken : HasCleanDisk new → IsTrue (is_key_of act.key act.command) → (first : ℤ) (acts : List Act) → IsHistory first acts
      → IsBooksOf first acts old.now → HasKnown known old → IsRowTaken first acts act so_far result old new
  pub knows : HasCleanDisk new → IsReady old.now → GoesOnKnown known after result old new
  pub kept : HasCleanDisk new → IsReady old.now → KeepsCommit old new

-- all rows
abbrev pub IsFiledInside : ℤ → List Act → List Act → ℤ → Result Filed RowFault → State → State → Type 0
IsFiledInside first acts rows day (Ok filed) old new =
    (taken filed.tally ≡ file_outcome first acts rows) × ShowsBooks first (acts_after_file first acts rows) old new × DayGoes first acts day (acts_after_file first acts rows) filed.day
IsFiledInside first acts rows day (Err (Refused row why)) old new = RefusedRow row why ≡ file_outcome first acts rows
IsFiledInside first acts rows day (Err Store) old new = Unit {0}
IsFiledInside first acts rows day (Err Foreign) old new = ⊥

-- all rows within the transaction, likewise
pub record Files (rows : List (Key × Command)) (day : ℤ) (known after : Option Known) (result : Result Filed RowFault) (old new : State) : Type 0 where
  pub filed : HasCleanDisk new → AreKeysOf rows → (first : ℤ) (acts : List Act) → IsHistory first acts
      → (IsTrue old.is_open → IsBooksOf first acts old.now) → (IsTrue old.is_open → HasKnown known old) → IsFiledInside first acts (rows_of rows) day result old new
  pub knows : HasCleanDisk new → (IsTrue old.is_open → IsReady old.now) → GoesOnKnown known after result old new
  pub kept : HasCleanDisk new → (IsTrue old.is_open → IsReady old.now) → KeepsCommit old new

-- and once they are committed, or undone
abbrev pub IsFiledOn : ℤ → List Act → List Act → ℤ → Result Filed RowFault → State → Type 0
IsFiledOn first acts rows day (Ok filed) new =
    (taken filed.tally ≡ file_outcome first acts rows) × IsTrue new.is_open × KeepsBooks first (acts_after_file first acts rows) new
    × DayGoes first acts day (acts_after_file first acts rows) filed.day
IsFiledOn first acts rows day (Err (Refused row why)) new = (RefusedRow row why ≡ file_outcome first acts rows) × KeepsBooks first acts new
IsFiledOn first acts rows day (Err Store) new = KeepsBooks first acts new
IsFiledOn first acts rows day (Err Foreign) new = ⊥
