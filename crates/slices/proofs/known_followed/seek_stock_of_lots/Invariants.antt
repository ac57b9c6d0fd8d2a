use Rattle.slices.proofs.Words.{◌≡◌, List, take, Ok, state, StockRow, AreStockOfLot, IsRead, Each, Learning}
use Rattle.slices.proofs.known_followed.seek_stock_of_lots.Given as goal

-- so far the stock of the first lots is read
abbrev pub invariant-loop-lot : goal.invariant-loop-lot
invariant-loop-lot g l =
    (l.tx.conn.ghost_name ≡ l.fn.tx.conn.ghost_name)
    × IsRead {X = List StockRow} (Learning l.rows l.rows (λ t found. Each (λ m units. AreStockOfLot m t units) (take l.lot-index l.lots) found)) (state g.S.Store l.fn.tx.conn.now) (state g.S.Store l.tx.conn.now) (Ok l.found.items)
