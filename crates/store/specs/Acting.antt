-- What an act answers, and what it leaves of the books.
use Rattle.std.specs.Prelude.{◌≡◌, Bool, if◌then◌else◌, List, Option, Some, None, Result, Ok, Err, ℤ, IsTrue, false}
use Rattle.store.specs.Words.{Ghosts, state, State, HasCleanDisk, KeepsCommit, IsReady, Goes, TableFault, Command, Key, RepeatRow, Act, day_after_command, tables_of, Outcome, IsHistory, is_key_of, bearer, outcome, acts_after, IsBooksOf, Known}
use Rattle.commands.specs.Spelling.{key_text, spelling}
use Rattle.rules.specs.Slices.{IsDecision}
use Rattle.machine.specs.Verdict.{verdict}
use Rattle.row_rules.specs.declared.slice.Change.{Change}
use Rattle.machine.specs.Once as once
use Rattle.store.specs.Books.{KeepsBooks, HoldsBooks}
use Rattle.store.specs.Faults.{fault_of}
use Rattle.store.specs.Knowing.{HasKnown, LeavesKnown}
use Rattle.store.specs.Connected.{Connected}
use Rattle.store.specs.declared.reply.Reply.{Reply}
use Rattle.store.specs.declared.fault.Fault.{Fault}
use Rattle.store.specs.declared.fault.Fault.TheVariants.{Refused, Store, Foreign}

-- the outcome that a reply tells
abbrev pub told : Reply → Outcome
told reply = if reply.repeated then once.Repeated reply.text else once.Accepted reply.text

-- an act on the books of the acts answers as the machine does, and leaves the books of the acts after; or it answers
-- `Store` and leaves them
abbrev pub IsActedOn : ℤ → List Act → Act → Result Reply Fault → State → Type 0
IsActedOn first acts act (Ok reply) new = (told reply ≡ outcome first acts act) × IsTrue new.is_open × KeepsBooks first (acts_after first acts act) new
IsActedOn first acts act (Err (Refused why)) new = (once.Refused why ≡ outcome first acts act) × KeepsBooks first acts new
IsActedOn first acts act (Err Store) new = KeepsBooks first acts new
IsActedOn first acts act (Err Foreign) new = ⊥

-- the same of the books, which know their business day. What is answered is not answered over a connection that the disk has shut
abbrev pub IsActed : {S : Type 0} → Ghosts S → ℤ → List Act → Act → Result Reply Fault → Connected S → Type 0
IsActed g first acts act (Ok reply) new = (told reply ≡ outcome first acts act) × IsTrue (state g new.conn).is_open × HoldsBooks g first (acts_after first acts act) new
IsActed g first acts act (Err (Refused why)) new = (once.Refused why ≡ outcome first acts act) × HoldsBooks g first acts new
IsActed g first acts act (Err Store) new = HoldsBooks g first acts new
IsActed g first acts act (Err Foreign) new = ⊥

-- the same within the transaction, where what is refused is not yet undone
abbrev pub IsActedInside : ℤ → List Act → Act → Result Reply Fault → State → State → Type 0
IsActedInside first acts act (Ok reply) old new = (told reply ≡ outcome first acts act) × IsTrue old.is_open × Goes (λ _. tables_of first (acts_after first acts act)) old new
IsActedInside first acts act (Err (Refused why)) old new = once.Refused why ≡ outcome first acts act
IsActedInside first acts act (Err Store) old new = Unit {0}
IsActedInside first acts act (Err Foreign) old new = ⊥

-- An act within a transaction, on acts of which so much is so: of the books of acts it answers and leaves what the machine does,
-- what is known of the tables is not lost, and nothing is committed.
pub record Acts (act : Act) (IsSo : Act → ℤ → List Act → Type 0) (known after : Option Known) (result : Result Reply Fault) (old new : State) : Type 0 where
  pub acted : HasCleanDisk new → IsTrue (is_key_of act.key act.command) → (first : ℤ) (acts : List Act) → IsHistory first acts
      → (IsTrue old.is_open → IsBooksOf first acts old.now) → (IsTrue old.is_open → HasKnown known old) → IsSo act first acts → IsActedInside first acts act result old new
  pub knows : HasCleanDisk new → (IsTrue old.is_open → IsReady old.now) → LeavesKnown known after result old new
  pub kept : HasCleanDisk new → (IsTrue old.is_open → IsReady old.now) → KeepsCommit old new

-- no act bears its key
abbrev pub IsNew : Act → ℤ → List Act → Type 0
IsNew act first acts = bearer act.key acts ≡ None

-- a decision by rows that are read for it, with the faults of the books: memory and the disk may not suffice for them
abbrev pub IsDecidedByRows : ℤ → Act → List Act → Result Change Fault → Type 0
IsDecidedByRows first act acts (Ok change) = IsDecision first act acts (Ok change)
IsDecidedByRows first act acts (Err (Refused why)) = verdict first acts act.command ≡ Some why
IsDecidedByRows first act acts (Err Store) = Unit {0}
IsDecidedByRows first act acts (Err Foreign) = ⊥

-- no act bears its key, and this is the decision
abbrev pub IsDecidedAs : Result Change Fault → Act → ℤ → List Act → Type 0
IsDecidedAs decision act first acts = IsNew act first acts × IsDecidedByRows first act acts decision

-- the row of `repeats` of an act that is accepted
abbrev pub repeat_of : Key → Command → Change → RepeatRow
repeat_of key command change = record { k = key_text key; act = change.meta.acts; spell = spelling command; reply = change.text }

-- the answer, once the change has been written, or was not
abbrev pub answer_of : Change → Result (Unit {0}) TableFault → Result Reply Fault
answer_of change (Ok done) = Ok (record { text = change.text; repeated = false })
answer_of change (Err cause) = Err (fault_of cause)

-- the business day after a command that was accepted, or that came again and so opens no day
abbrev pub day_left : ℤ → Command → Bool → ℤ
day_left day command repeated = if repeated then day else day_after_command command day
