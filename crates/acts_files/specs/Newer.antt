-- The lines of the next acts of books.
use Rattle.std.specs.Prelude.{◌≡◌, ◌⊎◌, ◌+◌, ◌≤◌, ℕ, ℤ, List, [], ◌++◌, length, Option, Some, Result, Ok, Err, Vec}
use Rattle.std.proofs.Common.{Global}
use Rattle.commands.specs.declared.rows.RepeatRow.{RepeatRow}
use Rattle.machine.specs.Acts.{Act}
use Rattle.machine.specs.Standing.{today}
use Rattle.histories.specs.Lines.{AddsLine}
use Rattle.histories.specs.Newer.{newer_text}
use Rattle.histories.specs.declared.lines.HistoryLines.{HistoryLines}
use Rattle.store.specs.declared.each_fault.EachFault.{EachFault}
use Rattle.store.specs.declared.each_fault.EachFault.TheVariants.{Stopped}
use Rattle.acts_files.specs.declared.few_lines.FewLines.{FewLines}

-- the bytes of lines in memory
abbrev pub in_memory : Vec ℕ Global → Option (List ℕ)
in_memory out = Some out.items

-- there was room, and the line of the next act was written
pub record AddsOne (before : FewLines) (row : RepeatRow) (after : FewLines) : Type 0 where
  pub line : AddsLine in_memory before.lines row after.lines
  pub room : before.room ≡ after.room + 1

-- where there is no room, no line was begun
abbrev pub StopsFull : (before : FewLines) → RepeatRow → (after : FewLines) → Type 0
StopsFull before row after = after.room ≡ 0 → after ≡ before

-- all rows were handed over, and the lines come to the number of all acts; or there was room for no more
abbrev pub IsTaken : FewLines → Result (Unit {0}) EachFault → (all : ℕ) → HistoryLines (Vec ℕ Global) → Type 0
IsTaken few end all lines = (lines ≡ few.lines) × (((end ≡ Ok tt) × (few.lines.done ≡ all)) ⊎ ((end ≡ Err Stopped) × (few.room ≡ 0)))

-- the lines of the newer acts, the number of the last one and the business day after it
pub record AreLinesOf (begun : ℤ) (newer older : List Act) (lines : HistoryLines (Vec ℕ Global)) : Type 0 where
  pub text : lines.out.items ≡ newer_text begun newer older
  pub done : lines.done ≡ length (newer ++ older)
  pub day : lines.day ≡ today begun (newer ++ older)

-- the next of the newer acts: all of them, or so many
pub record AreNext (most : ℕ) (newer next : List Act) : Type 0 where
  pub later : List Act
  pub parts : newer ≡ later ++ next
  pub few : length next ≤ most
  pub many : (later ≡ []) ⊎ (length next ≡ most)

-- the lines of the next acts
pub record AreNextLines (begun : ℤ) (most : ℕ) (newer older : List Act) (lines : HistoryLines (Vec ℕ Global)) : Type 0 where
  pub next : List Act
  pub are_next : AreNext most newer next
  pub are : AreLinesOf begun next older lines
