-- The day that acts began on, as their rows tell it.
use Rattle.std.specs.Prelude.{◌≡◌, ◌≢◌, ◌⊎◌, List, ◌∷◌, ◌++◌, reverse, Option, Some, None, ℤ}
use Rattle.std.specs.List.{AllByRecursion}
use Rattle.commands.specs.declared.rows.RepeatRow.{RepeatRow}
use Rattle.texts.specs.Starting.{Tells, SpellsNone}
use Rattle.texts.specs.declared.start.Start.{Start}
use Rattle.texts.specs.declared.start.Start.TheVariants.{Opened}
use Rattle.machine.specs.Acts.{Act}
use Rattle.machine.specs.Once.{IsHistory}
use Rattle.machine.specs.Tables.{tables_of}
use Rattle.histories.specs.Start.{IsStart, start_of}
use Rattle.replays.specs.Spelled.{spelled_rows}

-- the rows spell commands that tell nothing
abbrev pub TellNothing : List RepeatRow → Type 0
TellNothing rows = AllByRecursion (λ row. Tells row None) rows

-- of the rows the first that does not
pub record IsFirstBeside (rows : List RepeatRow) (Is : RepeatRow → Type 0) : Type 0 where
  pub earlier : List RepeatRow
  pub row : RepeatRow
  pub later : List RepeatRow
  pub parts : rows ≡ earlier ++ row ∷ later
  pub nothing : TellNothing earlier
  pub is : Is row

-- what the rows tell, the oldest first: what the first that tells of the day does, unless one before it spells no command
abbrev pub TellFirst : List RepeatRow → Option Start → Type 0
TellFirst rows (Some start) = IsFirstBeside rows (λ row. Tells row (Some start))
TellFirst rows None = TellNothing rows ⊎ IsFirstBeside rows SpellsNone

-- where the rows, the oldest first, are those of a history, this is what the oldest of its acts tells that tells it
abbrev pub Tell : List RepeatRow → Option Start → Type 0
Tell rows start = (first : ℤ) (acts : List Act) → IsHistory first acts → reverse rows ≡ spelled_rows first acts → start ≡ start_of acts

-- acts begun on the day that their tables tell have the same tables
abbrev pub TheDayThatIsToldStands : Type 0
TheDayThatIsToldStands = (first day : ℤ) (acts : List Act) → IsHistory first acts → IsStart first acts day
    → IsHistory day acts × (tables_of first acts ≡ tables_of day acts)

-- which is the day that they began on, but where an act opens a day before any receives
abbrev pub TheFirstDayIsTold : Type 0
TheFirstDayIsTold = (first : ℤ) (acts : List Act) → IsHistory first acts → ((day : ℤ) → start_of acts ≢ Some (Opened day)) → IsStart first acts first
