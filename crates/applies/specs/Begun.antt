-- The day on which the acts of books began, as far as their tables tell it.
use Rattle.std.specs.Prelude.{◌≡◌, ℕ, ℤ, ◌&&◌, if◌then◌else◌, List, ◌∷◌, ◌++◌, Option, Some, None, int_le}
use Rattle.label.specs.Days.{is_business_day, parsed_day}
use Rattle.applies.specs.Words.{Act, IsHistory, today, act_line}
use Rattle.machine.specs.Tables.{tables_of}
use Rattle.applies.specs.Fields.{cut_at_tab, behind_tab}

-- Begun on this day the acts are a history too, and have the same tables. Where they open a day before any receives, that is so
-- of each earlier day; else of one alone.
pub record BegunOn (first : ℤ) (acts : List Act) (begun : ℤ) : Type 0 where
  pub history : IsHistory begun acts
  pub tables : tables_of begun acts ≡ tables_of first acts

-- the day in the second field of a line, if there is one
abbrev pub day_in : Option (List ℕ × List ℕ) → Option ℤ
day_in None = None
day_in (Some cut) = parsed_day cut.0

abbrev pub line_day : List ℕ → Option ℤ
line_day line = day_in (behind_tab (cut_at_tab line))

-- that day, where it is a business day and not later than this one, and else this one
abbrev pub earlier_day : Option ℤ → (last : ℤ) → ℤ
earlier_day None last = last
earlier_day (Some day) last = if is_business_day day && int_le day last then day else last

-- A text of a history that goes on with the acts may begin with this line: it is the line of an act there, whatever the day on
-- which the history began. Then the act has the same business day where it began on this one.
abbrev pub FitsLine : (first : ℤ) → (acts : List Act) → (line : List ℕ) → (day : ℤ) → Type 0
FitsLine first acts line day =
    (begun : ℤ) (newer later : List Act) (act : Act) (older : List Act) → BegunOn first acts begun → IsHistory begun (newer ++ acts) → newer ++ acts ≡ later ++ act ∷ older → line ≡ act_line begun act older
    → today day (act ∷ older) ≡ today begun (act ∷ older)
