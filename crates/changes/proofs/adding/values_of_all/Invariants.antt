use Rattle.changes.proofs.Words.{◌≡◌, true, take, flat_map, AllByRecursion, bound}
use Rattle.changes.proofs.adding.values_of_all.Given as goal

-- the values of the rows so far, whose columns read as what they were
abbrev pub invariant-loop-row : goal.invariant-loop-row
invariant-loop-row g l =
    (bound l.all.items ≡ flat_map g.C.Chain.columns.cells (take l.row-index l.columns)) × AllByRecursion (λ c. g.C.Chain.columns.has 0 (g.C.Chain.columns.cells c) ≡ true) (take l.row-index l.columns)
