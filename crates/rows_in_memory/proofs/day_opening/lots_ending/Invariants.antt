use Rattle.rows_in_memory.proofs.Words.{LotRow, IsKept, is_ending}
use Rattle.rows_in_memory.proofs.day_opening.lots_ending.Given as goal

abbrev pub invariant-loop-lot : goal.invariant-loop-lot
invariant-loop-lot l = IsKept {X = LotRow} (is_ending l.old l.new l.asked) l.lots l.lot-index l.rows.items
