use Rattle.changes.proofs.Words.{◌≡◌, take, Ok, state, Writes, each_written, table_made}
use Rattle.changes.proofs.writing.write_tables.Given as goal

-- the tables so far were written
abbrev pub invariant-loop-table : goal.invariant-loop-table
invariant-loop-table g l =
    (l.tx.conn.ghost_name ≡ l.fn.tx.conn.ghost_name) × Writes {X = Unit {0}} (each_written (λ n. table_made l.change n l.filled) (take l.table-index l.tables)) (state g.S.Store l.fn.tx.conn.now) (state g.S.Store l.tx.conn.now) (Ok tt)
