use Rattle.std.specs.Prelude.{if◌then◌else◌}
use Rattle.row_rules.proofs.Capping.{IsCapped}
use Rattle.row_rules.proofs.row_search.units_with.Given as goal

abbrev pub invariant-loop-row : goal.invariant-loop-row
invariant-loop-row g l = IsCapped (λ r. if g.K.Same.same l.value (g.R.Has.of_row r) then g.R.HasUnits.units r else 0) l.rows l.row-index l.sum
