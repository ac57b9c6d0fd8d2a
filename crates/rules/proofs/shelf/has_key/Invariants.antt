use Rattle.rules.proofs.Words.{IsTested}
use Rattle.rules.proofs.shelf.has_key.Given as goal

abbrev pub invariant-loop-other : goal.invariant-loop-other
invariant-loop-other g l = IsTested (g.K.Same.same l.key) l.keys l.other-index
