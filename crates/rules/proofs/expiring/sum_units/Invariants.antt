use Rattle.rules.proofs.Words.{StagedRow, IsCapped}
use Rattle.rules.proofs.expiring.sum_units.Given as goal

abbrev pub invariant-loop-row : goal.invariant-loop-row
invariant-loop-row l = IsCapped {X = StagedRow} (λ r. r.qty) l.rows l.row-index l.sum
