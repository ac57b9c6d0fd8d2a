use Rattle.table_words.proofs.Words.{bound, state, Foreign}
use Rattle.table_words.proofs.CallLemmas.{kept_unchanged, query_keeps, query_same, query_none, none_unchanged, on_ok, on_err, shown_rows_read, shown_row_foreign}
use Rattle.table_words.proofs.reading.query.Goals as goal

pub returns-in-Ok-clause-rows : goal.returns-in-Ok-clause-rows
returns-in-Ok-clause-rows g c clean =
    shown_rows_read (λ found. found.items) g.T.Readable.has g.T.Readable.reads c.args.sql.now (bound c.args.params.now) (state g.S.Store c.args.tx.now.conn.now) (state g.S.Store c.query_all.new.self.conn.now) c.in-Ok.rows.items c.as_slice.result.now c.read_all.result c.as_slice.ensures.value (c.in-Ok.ensures.ok clean) c.read_all.ensures.typed c.read_all.ensures.ok

pub returns-in-Ok-clause-foreign : goal.returns-in-Ok-clause-foreign
returns-in-Ok-clause-foreign g c clean =
    shown_row_foreign Foreign g.T.Readable.has c.args.sql.now (bound c.args.params.now) (state g.S.Store c.args.tx.now.conn.now) (state g.S.Store c.query_all.new.self.conn.now) c.in-Ok.rows.items c.as_slice.result.now c.read_all.result c.as_slice.ensures.value (c.in-Ok.ensures.ok clean) c.read_all.ensures.foreign

pub returns-in-Ok-clause-same : goal.returns-in-Ok-clause-same
returns-in-Ok-clause-same g c clean plain =
    on_ok c.read_all.result (query_same c.args.sql.now (bound c.args.params.now) (state g.S.Store c.args.tx.now.conn.now) (state g.S.Store c.query_all.new.self.conn.now) c.in-Ok.rows.items plain (c.in-Ok.ensures.ok clean))

pub returns-in-Ok-clause-kept : goal.returns-in-Ok-clause-kept
returns-in-Ok-clause-kept g c clean plain =
    kept_unchanged (state g.S.Store c.args.tx.now.conn.now) (state g.S.Store c.query_all.new.self.conn.now)
    (query_same c.args.sql.now (bound c.args.params.now) (state g.S.Store c.args.tx.now.conn.now) (state g.S.Store c.query_all.new.self.conn.now) c.in-Ok.rows.items plain (c.in-Ok.ensures.ok clean))

pub returns-in-Err-clause-kept : goal.returns-in-Err-clause-kept
returns-in-Err-clause-kept g c clean plain =
    query_keeps c.args.sql.now (bound c.args.params.now) (state g.S.Store c.args.tx.now.conn.now) (state g.S.Store c.query_all.new.self.conn.now) c.in-Err.cause plain (c.in-Err.ensures.err clean)

pub returns-in-Ok-clause-refused : goal.returns-in-Ok-clause-refused
returns-in-Ok-clause-refused g c clean plain ready =
    on_err c.read_all.result (none_unchanged (state g.S.Store c.args.tx.now.conn.now) (state g.S.Store c.query_all.new.self.conn.now) ready
    (query_same c.args.sql.now (bound c.args.params.now) (state g.S.Store c.args.tx.now.conn.now) (state g.S.Store c.query_all.new.self.conn.now) c.in-Ok.rows.items plain (c.in-Ok.ensures.ok clean)))

pub returns-in-Err-clause-refused : goal.returns-in-Err-clause-refused
returns-in-Err-clause-refused g c clean plain ready =
    query_none c.args.sql.now (bound c.args.params.now) (state g.S.Store c.args.tx.now.conn.now) (state g.S.Store c.query_all.new.self.conn.now) c.in-Err.cause plain ready (c.in-Err.ensures.err clean)
