use Rattle.slices.proofs.Words.{StockRow, same_lot_id, IsKept}
use Rattle.slices.proofs.known_followed.units_of.Given as goal

abbrev pub invariant-loop-row : goal.invariant-loop-row
invariant-loop-row l = IsKept {X = StockRow} (λ r. same_lot_id l.lot r.lot) l.stock l.row-index l.rows.items
