-- The machine over requests: runs, with the free choice of a step that had no memory. A request is a key and a command.
use Rattle.std.specs.Prelude.{◌≡◌, List, [], ◌∷◌, ℤ}
use Rattle.machine.specs.Acts.{Act}
use Rattle.machine.specs.Once.{Outcome, outcome, acts_after, IsSoundRequest}

-- what is answered: an outcome, or that there was no memory
pub data Answer : Type 0 where
  Told : (outcome : Outcome) → Answer
  NoMemory : Answer

-- one step: it answers as the rules say, or has no memory and leaves the acts
abbrev pub Step : ℤ → List Act → Act → Answer → List Act → Type 0
Step first old request (Told o) new = (o ≡ outcome first old request) × (new ≡ acts_after first old request)
Step first old request NoMemory new = new ≡ old

-- steps, one after another
abbrev pub Run : ℤ → List Act → List Act → List Answer → List Act → Type 0
Run first old [] [] new = new ≡ old
Run first old (request ∷ requests) (answer ∷ answers) new =
    (mid : List Act) × Step first old request answer mid × Run first mid requests answers new
Run first old [] (answer ∷ answers) new = ⊥
Run first old (request ∷ requests) [] new = ⊥

-- each request keeps the values' rules
abbrev pub AllSound : List Act → Type 0
AllSound [] = Unit {0}
AllSound (request ∷ requests) = IsSoundRequest request × AllSound requests

-- the acts after requests that all find memory
abbrev pub acts_after_all : ℤ → List Act → List Act → List Act
acts_after_all first acts [] = acts
acts_after_all first acts (request ∷ requests) = acts_after_all first (acts_after first acts request) requests

-- and what those requests are told
abbrev pub outcomes : ℤ → List Act → List Act → List Outcome
outcomes first acts [] = []
outcomes first acts (request ∷ requests) = outcome first acts request ∷ outcomes first (acts_after first acts request) requests
