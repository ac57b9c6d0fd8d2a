use Rattle.rows_in_memory.proofs.Words.{IsPart}
use Rattle.rows_in_memory.proofs.known.KnownRows.drop_lists.Given as goal

abbrev pub invariant-loop-row : goal.invariant-loop-row
invariant-loop-row g l = IsPart g.K.Ord.cmp l.initial.self.rows l.self.rows
