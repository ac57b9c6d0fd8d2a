use Rattle.rules.proofs.Words.{LotRow, StockRow, IsGathered, row_returned}
use Rattle.rules.proofs.expiring.rows_returned.Given as goal

abbrev pub invariant-loop-row : goal.invariant-loop-row
invariant-loop-row l = IsGathered {X = LotRow} {Y = StockRow} (λ k. row_returned l.stock l.staged k.lot) l.lots l.row-index l.put.items
