use Rattle.audits.proofs.Words.{◌≡◌, take, None, Ok, state, SameEach, Tells}
use Rattle.audits.proofs.comparing.compare_each.Given as goal

-- of the tables so far no row was told
abbrev pub invariant-loop-table : goal.invariant-loop-table
invariant-loop-table g l =
    (l.books.conn.ghost_name ≡ l.fn.books.conn.ghost_name) × (l.replayed.conn.ghost_name ≡ l.fn.replayed.conn.ghost_name)
    × Tells (SameEach (take l.table-index l.tables)) (state g.S.Store l.fn.books.conn.now) (state g.S.Store l.books.conn.now) (state g.M.Store l.fn.replayed.conn.now) (state g.M.Store l.replayed.conn.now) (Ok None)
