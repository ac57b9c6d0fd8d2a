use Rattle.slices.proofs.Words.{drop}
use Rattle.slices.proofs.KnowsEach.{Learning}
use Rattle.slices.proofs.sought.keep_each.Given as goal

-- what is known is what the first rows make of it
abbrev pub invariant-loop-row : goal.invariant-loop-row
invariant-loop-row g l = Learning g.K.Ord.cmp (λ r. g.K.KeyOf.key (g.R.Has.of_row r)) l.rows (drop l.row-index l.rows) l.initial.known.rows l.known.rows
