use Rattle.keyed_rows.proofs.Words.{refl, ◌∙◌, arith, common_steps, state, with_row}
use Rattle.keyed_rows.proofs.Writing.{writes_first, writes_more, writes_failed, writes_all}
use Rattle.keyed_rows.proofs.rows.put_all.Goals as goal

pub loop-row-init : goal.loop-row-init
loop-row-init g c = (refl, writes_first (with_row g.T.Table.table) (state g.S.Store c.args.tx.now.conn.now))

pub loop-row-preserved : goal.loop-row-preserved
loop-row-preserved g c = (
  c.in_ok-put.ensures.same_reference ∙ c.loop-row.invariant.0,
  writes_more (with_row g.T.Table.table) c.args.rows.now c.loop-row.row-index c.row-item.result (state g.S.Store c.args.tx.now.conn.now) (state g.S.Store c.loop-row.tx.conn.now) (state g.S.Store c.put.new.tx.conn.now)
      (grind (arith, common_steps)) (grind (arith, common_steps)) c.loop-row.invariant.1 c.in_ok-put.ensures.writes,
)

pub returns-in_err-put-clause-writes : goal.returns-in_err-put-clause-writes
returns-in_err-put-clause-writes g c =
    writes_failed _ _ _ (state g.S.Store c.args.tx.now.conn.now) (state g.S.Store c.loop-row.tx.conn.now) (state g.S.Store c.put.new.tx.conn.now) tt _ c.from_residual.result c.from_residual.ensures c.loop-row.invariant.1 c.in_err-put.ensures.writes

pub returns-clause-writes : goal.returns-clause-writes
returns-clause-writes g c =
    writes_all (with_row g.T.Table.table) c.args.rows.now c.loop-row.row-index (state g.S.Store c.args.tx.now.conn.now) (state g.S.Store c.loop-row.tx.conn.now) (grind (arith, common_steps)) c.loop-row.invariant.1
