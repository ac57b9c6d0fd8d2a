use Rattle.changes.proofs.Words.{state, writes_then}
use Rattle.changes.proofs.rows.write_new_rows.Goals as goal

pub returns-clause-writes : goal.returns-clause-writes
returns-clause-writes g c =
    rw c.as_slice.ensures at (writes_then _ _ (state g.S.Store c.args.tx.now.conn.now) (state g.S.Store c.drop_all.new.tx.conn.now) (state g.S.Store c.put_new_rows.new.tx.conn.now) tt c.put_new_rows.result c.in_ok-drop_all.ensures.writes c.put_new_rows.ensures.writes)
