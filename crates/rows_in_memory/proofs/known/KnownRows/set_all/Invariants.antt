use Rattle.rows_in_memory.proofs.Words.{drop}
use Rattle.rows_in_memory.proofs.Maps.{Setting}
use Rattle.rows_in_memory.proofs.known.KnownRows.set_all.Given as goal

abbrev pub invariant-loop-row : goal.invariant-loop-row
invariant-loop-row g l = Setting g.K.Ord.cmp (λ r. g.K.KeyOf.key (g.R.Has.of_row r)) l.rows (drop l.row-index l.rows) l.initial.self.rows l.self.rows
