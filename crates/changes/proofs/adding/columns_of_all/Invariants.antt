use Rattle.std.proofs.Common.{◌≡◌, map, take}
use Rattle.changes.proofs.adding.columns_of_all.Given as goal

abbrev pub invariant-loop-row : goal.invariant-loop-row
invariant-loop-row g l = l.all.items ≡ map g.T.AddedMany.columns_of (take l.row-index l.rows)
