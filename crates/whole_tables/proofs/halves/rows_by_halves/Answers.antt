use Rattle.sqlite.specs.Held.{state}
use Rattle.whole_tables.proofs.Halving.{lower_failed, upper_failed, both_found}
use Rattle.whole_tables.proofs.halves.rows_by_halves.Goals as goal

pub returns-in-Err-clause-finds : goal.returns-in-Err-clause-finds
returns-in-Err-clause-finds g c =
    lower_failed g.T.Table.table g.met.T.Table.laws c.args.middle.now (state g.S.Store c.args.tx.now.conn.now) (state g.S.Store c.half_rows.new.tx.conn.now) c.in-Err.fault c.in-Err.ensures.finds

pub returns-in-Err-half_rows-clause-finds : goal.returns-in-Err-half_rows-clause-finds
returns-in-Err-half_rows-clause-finds g c =
    upper_failed g.T.Table.table g.met.T.Table.laws c.args.middle.now (state g.S.Store c.args.tx.now.conn.now) (state g.S.Store c.half_rows.new.tx.conn.now) (state g.S.Store c.half_rows-2.new.tx.conn.now) c.in-Ok.lower c.in-Ok.ensures.finds c.in-Err-half_rows.fault c.in-Err-half_rows.ensures.finds

pub returns-in-Ok-append-clause-finds : goal.returns-in-Ok-append-clause-finds
returns-in-Ok-append-clause-finds g c =
    both_found g.T.Table.table g.met.T.Table.laws c.args.middle.now (state g.S.Store c.args.tx.now.conn.now) (state g.S.Store c.half_rows.new.tx.conn.now) (state g.S.Store c.half_rows-2.new.tx.conn.now) c.in-Ok.lower c.in-Ok.ensures.finds c.in-Ok-half_rows.upper c.append.new.self c.in-Ok-append.ensures.items c.in-Ok-half_rows.ensures.finds
