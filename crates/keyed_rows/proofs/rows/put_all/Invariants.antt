use Rattle.keyed_rows.proofs.Words.{◌≡◌, take, Ok, state, Writes, each_written, with_row}
use Rattle.keyed_rows.proofs.rows.put_all.Given as goal

-- the rows so far were written
abbrev pub invariant-loop-row : goal.invariant-loop-row
invariant-loop-row g l =
    (l.tx.conn.ghost_name ≡ l.fn.tx.conn.ghost_name) × Writes {X = Unit {0}} (each_written (with_row g.T.Table.table) (take l.row-index l.rows)) (state g.S.Store l.fn.tx.conn.now) (state g.S.Store l.tx.conn.now) (Ok tt)
