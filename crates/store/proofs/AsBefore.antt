-- Calls that leave the tables as before, one after another.
use Rattle.store.proofs.Words.{refl, sym, ◌∙◌, State, KeepsCommit, kept_itself, kept_then, IsSettled, IsAsBefore}

-- settled before and after, with nothing committed: it shows what it showed
pub as_before : (old new : State) → IsSettled old → IsSettled new → KeepsCommit old new → IsAsBefore old new
as_before old new was is kept = record { kept = kept; shows = λ up. sym (is.settled up) ∙ kept.committed up ∙ was.settled (kept.was_open up) }

pub as_before_itself : (s : State) → IsAsBefore s s
as_before_itself s = record { kept = kept_itself s; shows = λ up. refl }

pub as_before_then : (a b c : State) → IsAsBefore a b → IsAsBefore b c → IsAsBefore a c
as_before_then a b c one two = record { kept = kept_then a b c one.kept two.kept; shows = λ up. two.shows up ∙ one.shows (two.kept.was_open up) }
