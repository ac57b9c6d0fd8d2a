use Rattle.store.proofs.Words.{take, All}
use Rattle.store.proofs.FilesInside.{IsSoundRow}
use Rattle.store.proofs.filing.every_row_is_sound.Given as goal

abbrev pub invariant-loop-row : goal.invariant-loop-row
invariant-loop-row l = All IsSoundRow (take l.row-index l.rows)
