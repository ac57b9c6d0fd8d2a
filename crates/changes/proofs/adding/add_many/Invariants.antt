use Rattle.changes.proofs.Words.{◌≡◌, ◌++◌, List, length, Ok, state, Writes, each_written, with_row}
use Rattle.changes.proofs.adding.add_many.Given as goal

-- the rows before those that are left were written
abbrev pub invariant-loop-rest : goal.invariant-loop-rest
invariant-loop-rest g l =
    (l.tx.conn.ghost_name ≡ l.fn.tx.conn.ghost_name)
    × ((done : List _) × (l.rows ≡ done ++ l.rest) × Writes {X = Unit {0}} (each_written (with_row g.T.Table.table) done) (state g.S.Store l.fn.tx.conn.now) (state g.S.Store l.tx.conn.now) (Ok tt))

abbrev pub decreases-loop-rest : goal.decreases-loop-rest
decreases-loop-rest g l = length l.rest
