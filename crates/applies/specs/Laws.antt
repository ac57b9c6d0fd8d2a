-- What applying a whole history to new books comes to.
use Rattle.std.specs.Prelude.{ℤ, List, [], ◌++◌, Ok}
use Rattle.applies.specs.Words.{Trees, Act, IsHistory, history_text, AreBooks}
use Rattle.applies.specs.Begun.{BegunOn}
use Rattle.applies.specs.Going.{IsDone}
use Rattle.applies.specs.declared.applied.Applied.{Applied}

-- where the whole text of a history was applied to new books that began on its day, these are its books: each row of each table
-- is the one that its own books have
abbrev pub StandbyIsPrimary : Type 0
StandbyIsPrimary = (first begun : ℤ) (acts newer : List Act) (told : Applied) (trees : Trees) → IsHistory first acts → BegunOn first [] begun → IsHistory first (newer ++ [])
    → IsDone first begun [] (history_text first acts) newer (Ok told) → AreBooks first (newer ++ []) trees → AreBooks first acts trees
