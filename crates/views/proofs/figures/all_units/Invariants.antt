use Rattle.views.proofs.Words.{◌≡◌, take, total}
use Rattle.views.proofs.figures.all_units.Given as goal

abbrev pub invariant-loop-row : goal.invariant-loop-row
invariant-loop-row g l = l.units ≡ total g.T.HasUnits.units (take l.row-index l.rows)
