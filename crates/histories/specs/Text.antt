-- The text of the history.
use Rattle.std.specs.Prelude.{ℕ, ℤ, ◌==◌, if◌then◌else◌, List, [], ◌∷◌, ◌++◌, map, decimal}
use Rattle.label.specs.Days.{day_text}
use Rattle.commands.specs.Spelling.{key_text, spelling}
use Rattle.machine.specs.Acts.{Act, next_number}
use Rattle.machine.specs.Standing.{today}

-- each line feed is a tab
abbrev pub tabbed : List ℕ → List ℕ
tabbed text = map (λ b. if b == 10 then 9 else b) text

-- a line: the number of an act, its day, its key and its spelling, parted by tabs
abbrev pub history_line : ℕ → ℤ → (k spell : List ℕ) → List ℕ
history_line number day k spell = decimal number ++ 9 ∷ day_text day ++ 9 ∷ k ++ 9 ∷ tabbed spell ++ 10 ∷ []

-- a line for each act, the oldest first, where the acts begin on this day
abbrev pub history_text : ℤ → List Act → List ℕ
history_text begun [] = []
history_text begun (act ∷ before) = history_text begun before ++ history_line (next_number before) (today begun (act ∷ before)) (key_text act.key) (spelling act.command)
