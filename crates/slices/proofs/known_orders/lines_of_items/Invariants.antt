use Rattle.slices.proofs.Words.{◌≡◌, List, take, Ok, LineRow, state, IsRead, Learning, AreLinesOfItems}
use Rattle.slices.proofs.known_orders.lines_of_items.Given as goal

-- so far the lines of the first items are read
abbrev pub invariant-loop-gtin : goal.invariant-loop-gtin
invariant-loop-gtin g l =
    (l.tx.conn.ghost_name ≡ l.fn.tx.conn.ghost_name)
    × IsRead {X = List LineRow} (Learning l.fn.rows l.rows (λ t lines. AreLinesOfItems l.known l.named (take l.gtin-index l.gtins) t lines)) (state g.S.Store l.fn.tx.conn.now) (state g.S.Store l.tx.conn.now) (Ok l.found.items)
