use Rattle.slices.proofs.Words.{sym, subst, state, KnowsNoRows, RowsKnown}
use Rattle.slices.proofs.SliceRead.{slice_read, slice_holds}
use Rattle.slices.proofs.slices.read_slice.Goals as goal

pub returns-clause-read : goal.returns-clause-read
returns-clause-read g c =
    slice_read c.args.known.now c.replace-rows.result c.replace-rows.new.dest c.slice_in-slice.new.rows c.replace-rows.ensures.value
    (subst (λ (rows : RowsKnown). KnowsNoRows rows) (sym c.replace-rows.ensures.after) c.new.ensures) c.args.command.now (state g.S.Store c.args.tx.now.conn.now) (state g.S.Store c.slice_in-slice.new.tx.conn.now) c.slice_in-slice.result c.slice_in-slice.ensures.read

pub returns-clause-holds : goal.returns-clause-holds
returns-clause-holds g c =
    slice_holds c.args.known.now c.replace-rows.result c.replace-rows.new.dest c.slice_in-slice.new.rows c.replace-rows.ensures.value
    (subst (λ (rows : RowsKnown). KnowsNoRows rows) (sym c.replace-rows.ensures.after) c.new.ensures) c.args.command.now (state g.S.Store c.args.tx.now.conn.now) (state g.S.Store c.slice_in-slice.new.tx.conn.now) c.slice_in-slice.result c.learn.new.known c.slice_in-slice.ensures.read c.learn.ensures.met c.learn.ensures.met_urgent c.learn.ensures.counted
    c.learn.ensures.rows c.learn.ensures.unread
