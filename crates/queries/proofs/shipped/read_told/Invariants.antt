use Rattle.queries.proofs.Words.{◌≡◌, List, drop, Ok, ShippedUnits, state, IsRead}
use Rattle.queries.proofs.ShippedTold.{AreToldSoFar}
use Rattle.queries.proofs.shipped.read_told.Given as goal

-- so far the first lines are told
abbrev pub invariant-loop-card : goal.invariant-loop-card
invariant-loop-card g l =
    (l.tx.conn.ghost_name ≡ l.fn.tx.conn.ghost_name)
    × IsRead {X = List ShippedUnits} (λ t told. AreToldSoFar t l.cards (drop l.card-index l.cards) told) (state g.S.Store l.fn.tx.conn.now) (state g.S.Store l.tx.conn.now) (Ok l.told.items)
