use Rattle.slices.proofs.Words.{◌≡◌, List, take, Ok, LineRow, state, IsRead, Learning, AreLinesFor}
use Rattle.slices.proofs.known_orders.lines_for.Given as goal

-- so far the lines in the first orders are read
abbrev pub invariant-loop-order : goal.invariant-loop-order
invariant-loop-order g l =
    (l.tx.conn.ghost_name ≡ l.fn.tx.conn.ghost_name)
    × IsRead {X = List LineRow} (Learning l.fn.rows l.rows (λ t lines. AreLinesFor (take l.order-index l.orders) t l.gtin lines)) (state g.S.Store l.fn.tx.conn.now) (state g.S.Store l.tx.conn.now) (Ok l.found.items)
