-- Texts of histories that go on with the acts of books: they are taken whole.
use Rattle.std.specs.Prelude.{◌≡◌, ◌<◌, ℤ, ℕ, List, ◌++◌, length, Result, Ok, Err}
use Rattle.applies.specs.Words.{Ghosts, Act, IsHistory, Connected, HoldsBooks}
use Rattle.applies.specs.Begun.{BegunOn}
use Rattle.applies.specs.Going.{GoneOn, IsCounted, IsOfNoLine}
use Rattle.applies.specs.declared.applied.Applied.{Applied}
use Rattle.applies.specs.declared.applied.NotApplied.{NotApplied}

-- What comes of a text that has the lines of these newer acts, and before them those of acts that the books had: the newer ones
-- were done, and all are counted. Or memory, the disk or the input did not suffice, or the rows of the books are not stored in the
-- order of the acts; then the oldest of the newer ones were done.
abbrev pub IsTakenBy : {S : Type 0} → Ghosts S → (first begun : ℤ) → (acts : List Act) → (text : List ℕ) → (newer : List Act) → GoneOn begun acts text newer → Result Applied NotApplied → Connected S → Type 0
IsTakenBy g first begun acts text newer gone (Ok told) books = IsCounted begun acts text newer gone told × HoldsBooks g first (newer ++ acts) books
IsTakenBy g first begun acts text newer gone (Err fault) books = IsOfNoLine fault × (later : List Act) × (done : List Act) × (newer ≡ later ++ done) × HoldsBooks g first (done ++ acts) books

-- A text of a history, from whatever line on, is taken whole where the books have all acts before that line: the history goes on
-- with their acts, or they have all of its acts. The day on which it began is one on which the acts of the books can have begun.
-- What stands behind its last whole line is shorter than the longest line that is read.
abbrev pub IsTaken : {S : Type 0} → Ghosts S → (first : ℤ) → (acts : List Act) → (text : List ℕ) → Result Applied NotApplied → Connected S → Type 0
IsTaken g first acts text result books =
    (begun : ℤ) (newer : List Act) → BegunOn first acts begun → IsHistory begun (newer ++ acts) → (gone : GoneOn begun acts text newer) → length gone.rest < 8_192
    → IsTakenBy g first begun acts text newer gone result books
