use Rattle.std.specs.Prelude.{◌==◌}
use Rattle.row_rules.proofs.Searching.{IsSearched}
use Rattle.row_rules.proofs.row_index.find_numbered.Given as goal

abbrev pub invariant-loop-row : goal.invariant-loop-row
invariant-loop-row g l = IsSearched (λ r. l.number == g.T.Numbered.number r) l.rows l.row-index
