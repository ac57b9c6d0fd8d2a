use Rattle.keyed_rows.proofs.Words.{refl, ◌∙◌, arith, common_steps, state, with_row}
use Rattle.keyed_rows.proofs.Writing.{writes_first, writes_more, writes_failed, writes_all, were_first, were_more}
use Rattle.keyed_rows.proofs.rows.add_all.Goals as goal

pub loop-row-init : goal.loop-row-init
loop-row-init g c = (refl, writes_first (with_row g.T.Table.table) (state g.S.Store c.args.tx.now.conn.now), were_first (state g.S.Store c.args.tx.now.conn.now))

pub loop-row-preserved : goal.loop-row-preserved
loop-row-preserved g c =
    let old = state g.S.Store c.args.tx.now.conn.now in
    let mid = state g.S.Store c.loop-row.tx.conn.now in
    let new = state g.S.Store c.add.new.tx.conn.now in
    let so_far = c.loop-row.invariant in (
      c.in_ok-add.ensures.same_reference ∙ so_far.0,
      writes_more (with_row g.T.Table.table) c.args.rows.now c.loop-row.row-index c.row-item.result old mid new (grind (arith, common_steps)) (grind (arith, common_steps)) so_far.1 c.in_ok-add.ensures.writes,
      were_more _ _ old mid new so_far.1 so_far.2 c.in_ok-add.ensures.writes c.in_ok-add.ensures.were_typed,
    )

pub returns-in_err-add-clause-writes : goal.returns-in_err-add-clause-writes
returns-in_err-add-clause-writes g c =
    writes_failed _ _ _ (state g.S.Store c.args.tx.now.conn.now) (state g.S.Store c.loop-row.tx.conn.now) (state g.S.Store c.add.new.tx.conn.now) tt _ c.from_residual.result c.from_residual.ensures c.loop-row.invariant.1 c.in_err-add.ensures.writes

pub returns-clause-writes : goal.returns-clause-writes
returns-clause-writes g c =
    writes_all (with_row g.T.Table.table) c.args.rows.now c.loop-row.row-index (state g.S.Store c.args.tx.now.conn.now) (state g.S.Store c.loop-row.tx.conn.now) (grind (arith, common_steps)) c.loop-row.invariant.1
