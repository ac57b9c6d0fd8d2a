-- What an act tells of the day that the acts began on.
use Rattle.std.specs.Prelude.{◌≡◌, ◌≢◌, ℕ, Option, Some, None, if◌then◌else◌, ℤ, pos, ◌-ℤ◌, IsTrue}
use Rattle.label.specs.Days.{is_business_day}
use Rattle.commands.specs.Sound.{is_sound}
use Rattle.commands.specs.Spelling.{spelling}
use Rattle.commands.specs.declared.rows.RepeatRow.{RepeatRow}
use Rattle.commands.specs.declared.command.Command.{Command}
use Rattle.commands.specs.declared.command.Command.TheVariants.{Receive, OpenDay}
use Rattle.texts.specs.declared.start.Start.{Start}
use Rattle.texts.specs.declared.start.Start.TheVariants.{Received, Opened}

-- what a command tells of it, as the act of this number
abbrev pub told_by : ℕ → Command → Option Start
told_by n (Receive r) = Some (Received r.lot n)
told_by n (OpenDay day) = Some (Opened day)
told_by n _ = None

-- the row spells a command, which tells this
pub record Tells (row : RepeatRow) (what : Option Start) : Type 0 where
  pub command : Command
  pub sound : IsTrue (is_sound command)
  pub spelled : row.spell ≡ spelling command
  pub told : what ≡ told_by row.act command

-- it spells none
abbrev pub SpellsNone : RepeatRow → Type 0
SpellsNone row = (command : Command) → IsTrue (is_sound command) → row.spell ≢ spelling command

-- what a row tells; none where it spells none
abbrev pub IsReadFrom : RepeatRow → Option (Option Start) → Type 0
IsReadFrom row (Some told) = Tells row told
IsReadFrom row None = SpellsNone row

-- the day before; of the first business day that day itself
abbrev pub day_before : ℤ → ℤ
day_before day = if is_business_day (day -ℤ pos 1) then day -ℤ pos 1 else day
