use Rattle.rules.proofs.Words.{IsTested, changes_lot}
use Rattle.rules.proofs.least.changes_any.Given as goal

abbrev pub invariant-loop-lot : goal.invariant-loop-lot
invariant-loop-lot l = IsTested (changes_lot l.slice l.least) l.lots l.lot-index
