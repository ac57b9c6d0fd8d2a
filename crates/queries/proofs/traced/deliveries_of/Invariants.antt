use Rattle.queries.proofs.Words.{drop}
use Rattle.queries.specs.Traced.{IsDelivery}
use Rattle.queries.proofs.Telling.{AreToldYet}
use Rattle.queries.proofs.traced.deliveries_of.Given as goal

abbrev pub invariant-loop-card : goal.invariant-loop-card
invariant-loop-card l = AreToldYet IsDelivery l.cards (drop l.card-index l.cards) l.told.items
