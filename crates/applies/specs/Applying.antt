-- What applying a text comes to.
use Rattle.std.specs.Prelude.{ℕ, ℤ, List, Result}
use Rattle.applies.specs.Words.{Ghosts, Trees, Act, Connected}
use Rattle.applies.specs.Begun.{BegunOn}
use Rattle.applies.specs.Going.{GoesOn, Leaves}
use Rattle.applies.specs.declared.applied.Applied.{Applied}
use Rattle.applies.specs.declared.applied.NotApplied.{NotApplied}

-- Over the books of the acts, the acts of the lines were done which the books had not, or a line was not and all before it were.
-- The lines are those of acts that began on a day which the tables of the books tell.
abbrev pub IsApplied : {S : Type 0} → Ghosts S → (first : ℤ) → (acts : List Act) → (text : List ℕ) → Result Applied NotApplied → Connected S → Type 0
IsApplied g first acts text result books = (begun : ℤ) × BegunOn first acts begun × GoesOn g first begun acts text result books

-- a stop within leaves the books of the acts and of those of the first new lines
abbrev pub LeavesOneOf : (first : ℤ) → (acts : List Act) → (text : List ℕ) → Trees → Type 0
LeavesOneOf first acts text trees = (begun : ℤ) × BegunOn first acts begun × Leaves first begun acts text trees
