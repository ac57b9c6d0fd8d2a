-- What comes of a row of `repeats` that is handed over. `contents` is what a writer holds, where it tells that.
use Rattle.std.specs.Prelude.{◌≡◌, ◌⊎◌, ℕ, ℤ, ◌+◌, List, [], Option, IsTrue}
use Rattle.std.specs.Io.KnownBytes.{Appends}
use Rattle.commands.specs.Sound.{is_sound}
use Rattle.commands.specs.Spelling.{spelling}
use Rattle.commands.specs.declared.command.Command.{Command}
use Rattle.commands.specs.declared.rows.RepeatRow.{RepeatRow}
use Rattle.machine.specs.Standing.{day_after_command}
use Rattle.texts.specs.Writing.{AppendsBeginning}
use Rattle.histories.specs.Text.{history_line}
use Rattle.histories.specs.Faults.{IsOfRow}
use Rattle.histories.specs.declared.lines.HistoryLines.{HistoryLines}

-- the day after the command that is spelled so
abbrev pub IsDayAfter : List ℕ → (old new : ℤ) → Type 0
IsDayAfter spell old new = (command : Command) → IsTrue (is_sound command) → spell ≡ spelling command → new ≡ day_after_command command old

-- the line of a row
abbrev pub row_line : ℤ → RepeatRow → List ℕ
row_line day row = history_line row.act day row.k row.spell

-- the row was that of the next act, and its line was written
pub record AddsLine {W : Type 0} (contents : W → Option (List ℕ)) (before : HistoryLines W) (row : RepeatRow) (after : HistoryLines W) : Type 0 where
  pub turn : row.act ≡ before.done + 1
  pub done : after.done ≡ before.done + 1
  pub day : IsDayAfter row.spell before.day after.day
  pub written : Appends (contents before.out) (contents after.out) (row_line after.day row)

-- nothing was written; or the row was that of the next act, and a beginning of its line was written
abbrev pub CutsLine : {W : Type 0} → (W → Option (List ℕ)) → (before : HistoryLines W) → RepeatRow → (after : HistoryLines W) → Type 0
CutsLine contents before row after =
    Appends (contents before.out) (contents after.out) []
    ⊎ ((row.act ≡ before.done + 1) × (day : ℤ) × IsDayAfter row.spell before.day day × AppendsBeginning (contents before.out) (contents after.out) (row_line day row))

-- and why it stopped: a row is told to be foreign where it is not that of the next act
abbrev pub StopsLine : {W : Type 0} → (W → Option (List ℕ)) → (before : HistoryLines W) → RepeatRow → (after : HistoryLines W) → Type 0
StopsLine contents before row after = CutsLine contents before row after × IsOfRow before.done row after.fault
