-- The day on which the acts began, as far as their tables tell it.
use Rattle.std.specs.Prelude.{◌≡◌, ◌+◌, ℕ, ℤ, List, [], ◌∷◌, Option, Some, None, option_map}
use Rattle.commands.specs.declared.rows.MetaRow.{MetaRow}
use Rattle.commands.specs.declared.rows.CardRow.{CardRow}
use Rattle.commands.specs.declared.rows.RepeatRow.{RepeatRow}
use Rattle.texts.specs.Starting.{told_by, Tells, day_before}
use Rattle.texts.specs.declared.start.Start.{Start}
use Rattle.texts.specs.declared.start.Start.TheVariants.{Received, Opened}
use Rattle.machine.specs.Acts.{Act, next_number}
use Rattle.machine.specs.Tables.{Tables, tables_of}
use Rattle.histories.specs.Faults.{IsOfRow}
use Rattle.histories.specs.declared.fault.HistoryFault.{HistoryFault}
use Rattle.histories.specs.declared.first_start.FirstStart.{FirstStart}
use Rattle.histories.specs.declared.start.CardDay.{CardDay}

-- what the older acts tell, or else this one
abbrev pub told_first : Option Start → Option Start → Option Start
told_first None newer = newer
told_first (Some older) newer = Some older

-- what the oldest act tells that receives or opens a day
abbrev pub start_of : List Act → Option Start
start_of [] = None
start_of (act ∷ before) = told_first (start_of before) (told_by (next_number before) act.command)

-- The day is that of the books where no act tells it, that of the line of the first receipt in its lot's card, or the day
-- before the first that was opened.
abbrev pub first_day : Tables → Option Start → Option ℤ
first_day t None = option_map (λ (m : MetaRow). m.day) t.meta
first_day t (Some (Received lot act)) = option_map (λ (c : CardRow). c.day) (t.card lot act)
first_day t (Some (Opened day)) = Some (day_before day)

-- the day that the tables of the acts tell, where this is what the acts do
abbrev pub IsStartBy : ℤ → List Act → Option Start → ℤ → Type 0
IsStartBy first acts start begun = first_day (tables_of first acts) start ≡ Some begun

abbrev pub IsStart : ℤ → List Act → ℤ → Type 0
IsStart first acts begun = IsStartBy first acts (start_of acts) begun

-- the row is of the next act, and tells nothing
pub record Passes (before : FirstStart) (row : RepeatRow) (after : FirstStart) : Type 0 where
  pub turn : row.act ≡ before.done + 1
  pub done : after.done ≡ before.done + 1
  pub nothing : Tells row None

-- the row of the act behind so many tells what was found; where nothing was, it is not of that act, or could not be read
abbrev pub IsFound : Option Start → (done : ℕ) → RepeatRow → HistoryFault → Type 0
IsFound None done row fault = IsOfRow done row fault
IsFound (Some found) done row fault = (row.act ≡ done + 1) × Tells row (Some found)

abbrev pub Finds : (before : FirstStart) → RepeatRow → (after : FirstStart) → Type 0
Finds before row after = IsFound after.found before.done row after.fault

-- the card line is that of the act on the card of the lot
abbrev pub IsSought : CardDay → CardRow → Type 0
IsSought sought row = (row.lot ≡ sought.lot) × (row.act ≡ sought.act)

-- a card line of another act or lot is passed, and that of the act tells its day
abbrev pub IsPassed : CardDay → CardRow → CardDay → Type 0
IsPassed before row after = (after.lot ≡ before.lot) × (after.act ≡ before.act) × ¬ IsSought before row

abbrev pub TellsDay : CardDay → CardRow → CardDay → Type 0
TellsDay before row after = (row.lot ≡ before.lot) × (row.act ≡ before.act) × (after.day ≡ Some row.day)
