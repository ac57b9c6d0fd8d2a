-- What printing the history comes to.
use Rattle.std.specs.Prelude.{◌⊎◌, ℕ, ℤ, List, [], Option, Result, Ok, Err}
use Rattle.std.specs.Io.KnownBytes.{Appends}
use Rattle.machine.specs.Acts.{Act}
use Rattle.texts.specs.Writing.{AppendsBeginning}
use Rattle.histories.specs.Text.{history_text}
use Rattle.histories.specs.Start.{IsStart}

-- the whole text was printed, from the day on which the acts began; or nothing or a beginning of it, where memory, the disk or
-- the output did not suffice, or where the rows are not stored in the order of the acts
abbrev pub IsHistoryPrinted : {E : Type 0} → ℤ → List Act → (old new : Option (List ℕ)) → Result Unit E → Type 0
IsHistoryPrinted first acts old new (Ok done) = (begun : ℤ) × IsStart first acts begun × Appends old new (history_text begun acts)
IsHistoryPrinted first acts old new (Err fault) = Appends old new [] ⊎ ((begun : ℤ) × IsStart first acts begun × AppendsBeginning old new (history_text begun acts))
