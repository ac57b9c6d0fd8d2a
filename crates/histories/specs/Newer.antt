-- The text of a history, from an act on.
use Rattle.std.specs.Prelude.{◌≡◌, ℕ, ℤ, List, [], ◌∷◌, ◌++◌, length, Option}
use Rattle.std.specs.Io.KnownBytes.{Appends}
use Rattle.commands.specs.Spelling.{key_text, spelling}
use Rattle.machine.specs.Acts.{Act, next_number}
use Rattle.machine.specs.Standing.{today}
use Rattle.histories.specs.Text.{history_line}

-- the line of the act that comes after these
abbrev pub act_line : ℤ → Act → List Act → List ℕ
act_line begun act before = history_line (next_number before) (today begun (act ∷ before)) (key_text act.key) (spelling act.command)

-- the lines of the newer acts, which come after the older ones
abbrev pub newer_text : ℤ → (newer older : List Act) → List ℕ
newer_text begun [] older = []
newer_text begun (act ∷ newer) older = newer_text begun newer older ++ act_line begun act (newer ++ older)

-- the lines of some of the newer acts were written, the oldest of them; their last number and the business day after it are known
abbrev pub AreWrittenAbove : ℤ → (newer older : List Act) → (old new : Option (List ℕ)) → (number : ℕ) → (day : ℤ) → Type 0
AreWrittenAbove begun newer older old new number day =
    (later written : List Act) × (newer ≡ later ++ written) × (number ≡ length (written ++ older)) × (day ≡ today begun (written ++ older)) × Appends old new (newer_text begun written older)
