use Rattle.changes.proofs.Words.{state, writes_then}
use Rattle.changes.proofs.writing.write_staged.Goals as goal

pub returns-clause-writes : goal.returns-clause-writes
returns-clause-writes g c =
    writes_then _ _ (state g.S.Store c.args.tx.now.conn.now) (state g.S.Store c.write_stage.new.tx.conn.now) (state g.S.Store c.write_rows.new.tx.conn.now) tt c.write_rows.result c.in_ok-write_stage.ensures.writes c.write_rows.ensures.writes
