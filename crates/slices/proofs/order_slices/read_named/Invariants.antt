use Rattle.slices.proofs.Words.{◌≡◌, List, take, Ok, OrderRow, LineRow, state, IsRead, Learning, AreNamed}
use Rattle.slices.proofs.order_slices.read_named.Given as goal

-- so far the first orders are read
abbrev pub invariant-loop-order : goal.invariant-loop-order
invariant-loop-order g l =
    (l.tx.conn.ghost_name ≡ l.fn.tx.conn.ghost_name)
    × IsRead {X = List OrderRow × List LineRow} (Learning l.fn.rows l.rows (λ t found. AreNamed (take l.order-index l.named) t found.0 found.1)) (state g.S.Store l.fn.tx.conn.now) (state g.S.Store l.tx.conn.now) (Ok (l.orders.items, l.lines.items))
