use Rattle.keyed_rows.proofs.Words.{refl, ◌∙◌, arith, common_steps, state, without_row}
use Rattle.keyed_rows.proofs.Writing.{writes_first, writes_more, writes_failed, writes_all}
use Rattle.keyed_rows.proofs.rows.drop_all.Goals as goal

pub loop-row-init : goal.loop-row-init
loop-row-init g c = (refl, writes_first (λ (r : _). without_row g.T.Table.table (g.T.Table.table.key r)) (state g.S.Store c.args.tx.now.conn.now))

pub loop-row-preserved : goal.loop-row-preserved
loop-row-preserved g c = (
  c.in_ok-drop_row.ensures.same_reference ∙ c.loop-row.invariant.0,
  writes_more (λ (r : _). without_row g.T.Table.table (g.T.Table.table.key r)) c.args.rows.now c.loop-row.row-index c.row-item.result (state g.S.Store c.args.tx.now.conn.now) (state g.S.Store c.loop-row.tx.conn.now) (state g.S.Store c.drop_row.new.tx.conn.now)
      (grind (arith, common_steps)) (grind (arith, common_steps)) c.loop-row.invariant.1 c.in_ok-drop_row.ensures.writes,
)

pub returns-in_err-drop_row-clause-writes : goal.returns-in_err-drop_row-clause-writes
returns-in_err-drop_row-clause-writes g c =
    writes_failed _ _ _ (state g.S.Store c.args.tx.now.conn.now) (state g.S.Store c.loop-row.tx.conn.now) (state g.S.Store c.drop_row.new.tx.conn.now) tt _ c.from_residual.result c.from_residual.ensures c.loop-row.invariant.1 c.in_err-drop_row.ensures.writes

pub returns-clause-writes : goal.returns-clause-writes
returns-clause-writes g c =
    writes_all (λ (r : _). without_row g.T.Table.table (g.T.Table.table.key r)) c.args.rows.now c.loop-row.row-index (state g.S.Store c.args.tx.now.conn.now) (state g.S.Store c.loop-row.tx.conn.now) (grind (arith, common_steps)) c.loop-row.invariant.1
