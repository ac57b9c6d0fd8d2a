-- The acts: accepted commands, each with its key, the newest first. All else is computed from them.
use Rattle.std.specs.Prelude.{ℕ, ◌+◌, List, [], ◌∷◌, length, Option}
use Rattle.std.specs.List.{cons_option}
use Rattle.machine.specs.Words.{Key, Command}

pub record Act : Type 0 where
  pub key : Key
  pub command : Command

-- the number of the act that follows these
abbrev pub next_number : List Act → ℕ
next_number acts = length acts + 1

-- what f finds in the acts, given the number and the command of each, the newest first
abbrev pub gathered : {X : Type 0} → (ℕ → Command → Option X) → List Act → List X
gathered f [] = []
gathered f (act ∷ before) = cons_option (f (next_number before) act.command) (gathered f before)
