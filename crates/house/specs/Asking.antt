-- What the parts of a house do: the words of the functions below `answer`.
use Rattle.std.specs.Prelude.{◌≡◌, ◌⊎◌, ℕ, List, Option, Some, None, Result, Ok, Err, ℤ}
use Rattle.house.specs.Words.{label_read, refusal_code, Key, Command, Ghosts, Trees, Act, IsHistory, today, answer_bytes, code_text, Answer, Text, Connected, Fault, Store, Foreign, AreBooks, HoldsBooks, MayLeave}
use Rattle.store.specs.declared.reply.Reply.{Reply}
use Rattle.store.specs.declared.tally.Tally.{Tally}
use Rattle.store.specs.declared.tally.RowFault.{RowFault}
use Rattle.store.specs.declared.tally.RowFault.TheVariants as row
use Rattle.store.specs.declared.fault.Fault.TheVariants.{Refused}
use Rattle.house.specs.Answers.{short_answer, no_memory, foreign_books, tally_answer, row_conflict, Delivered, scan_answer, acts_scanned}

abbrev pub act_of : Key → Command → Act
act_of key command = record { key = key; command = command }

abbrev pub delivered : List ℕ → ℕ → List ℕ → ℕ → Delivered
delivered delivery line bin qty = record { delivery = delivery; line = line; bin = bin; qty = qty }

abbrev pub scanned_answer : ℤ → List Act → Delivered → List ℕ → List ℕ
scanned_answer first acts d label = scan_answer first acts d (label_read (today first acts) label)

abbrev pub scanned_acts : ℤ → List Act → Delivered → List ℕ → List Act
scanned_acts first acts d label = acts_scanned first acts d (label_read (today first acts) label)

-- how an act went
abbrev pub told_answer : Result Reply Fault → List ℕ
told_answer (Ok reply) = short_answer 200 reply.text
told_answer (Err (Refused why)) = short_answer 409 (code_text (refusal_code why))
told_answer (Err Store) = no_memory
told_answer (Err Foreign) = foreign_books

-- how the rows of a file went
abbrev pub told_file_answer : Result Tally RowFault → List ℕ
told_file_answer (Ok tally) = tally_answer tally.accepted tally.repeated
told_file_answer (Err (row.Refused n why)) = row_conflict n why
told_file_answer (Err row.Store) = no_memory
told_file_answer (Err row.Foreign) = foreign_books

-- a query that is refused, or that failed
abbrev pub fault_shown : Fault → List ℕ
fault_shown (Refused why) = short_answer 404 (code_text (refusal_code why))
fault_shown Store = no_memory
fault_shown Foreign = foreign_books

-- what is shown, or why nothing is
abbrev pub asked_answer : Result Answer Fault → List ℕ
asked_answer (Ok answer) = answer_bytes answer
asked_answer (Err fault) = fault_shown fault

-- the answer of a view that is whole; one that is not is of no books
abbrev pub whole_asked : {V : Type 0} → (V → Answer) → Result (Option V) Fault → Result Answer Fault
whole_asked answer (Ok (Some view)) = Ok (answer view)
whole_asked answer (Ok None) = Err Foreign
whole_asked answer (Err fault) = Err fault

-- the text was written, or there was no memory for it
abbrev pub IsWritten : List ℕ → Result Answer Fault → Type 0
IsWritten text (Ok answer) = answer ≡ Text text
IsWritten text (Err fault) = fault ≡ Store

-- the text of what is shown, or why nothing is
abbrev pub IsTextOf : {V : Type 0} → (V → List ℕ) → Result V Fault → Result Answer Fault → Type 0
IsTextOf text (Ok view) result = IsWritten (text view) result
IsTextOf text (Err fault) result = result ≡ Err fault

-- what is wanted is told and done
pub record IsDone {S : Type 0} (g : Ghosts S) (first : ℤ) (acts : List Act) (old : Connected S) (wanted : List ℕ) (next : List Act) (bytes : List ℕ) (books : Connected S) : Type 0 where
  pub answer : bytes ≡ wanted
  pub history : IsHistory first next
  pub holds : HoldsBooks g first next books
  -- a stop leaves what is done; where nothing was to be done, it may leave what it left before
  pub kept : (trees : Trees) → MayLeave g books trees → AreBooks first next trees ⊎ (MayLeave g old trees × (next ≡ acts))

-- there was no memory, and nothing is done
pub record IsUndone {S : Type 0} (g : Ghosts S) (first : ℤ) (acts : List Act) (old : Connected S) (next : List Act) (bytes : List ℕ) (books : Connected S) : Type 0 where
  pub answer : bytes ≡ no_memory
  pub holds : HoldsBooks g first acts books
  -- a stop leaves what it left before; where the disk has shut the connection, it may leave the whole of what was asked
  pub kept : (trees : Trees) → MayLeave g books trees → MayLeave g old trees ⊎ (IsHistory first next × AreBooks first next trees)

-- the books of the acts do what is wanted, or find no memory
abbrev pub Does : {S : Type 0} → Ghosts S → ℤ → List Act → Connected S → List ℕ → List Act → List ℕ → Connected S → Type 0
Does g first acts old wanted next bytes new =
    HoldsBooks g first acts old → IsDone g first acts old wanted next bytes new ⊎ IsUndone g first acts old next bytes new
