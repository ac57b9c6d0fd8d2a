use Rattle.rows_in_memory.proofs.Words.{true, drop, placed}
use Rattle.rows_in_memory.proofs.Maps.{Coming}
use Rattle.rows_in_memory.proofs.known.KnownRows.place_all.Given as goal

abbrev pub invariant-loop-row : goal.invariant-loop-row
invariant-loop-row g l = Coming g.K.Ord.cmp (λ r. g.K.KeyOf.key (g.R.Has.of_row r)) (placed g.R.KeyedRow.same_row true) l.rows (drop l.row-index l.rows) l.initial.self.rows l.self.rows
