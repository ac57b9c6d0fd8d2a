use Rattle.queries.proofs.Words.{drop}
use Rattle.queries.specs.Traced.{IsStaged}
use Rattle.queries.proofs.Telling.{AreToldYet}
use Rattle.queries.proofs.traced.stages_of.Given as goal

abbrev pub invariant-loop-row : goal.invariant-loop-row
invariant-loop-row l = AreToldYet (IsStaged l.orders) l.staged (drop l.row-index l.staged) l.told.items
