use Rattle.changes.proofs.Words.{◌<◌, length, refl, ◌∙◌, arith, common_steps, get_or_default, state, writes_first, writes_more, writes_failed, writes_all, table_made}
use Rattle.changes.proofs.writing.write_tables.Goals as goal

pub loop-table-init : goal.loop-table-init
loop-table-init g c = (refl, writes_first (λ n. table_made c.args.change.now n c.args.filled.now) (state g.S.Store c.args.tx.now.conn.now))

pub loop-table-preserved : goal.loop-table-preserved
loop-table-preserved g c =
    let at = c.loop-table.table-index in
    let low : at < length c.args.tables.now = grind (arith, common_steps) in (
      c.in_ok-write_table.ensures.same_reference ∙ c.loop-table.invariant.0,
      writes_more (λ n. table_made c.args.change.now n c.args.filled.now) c.args.tables.now at _ (state g.S.Store c.args.tx.now.conn.now) (state g.S.Store c.loop-table.tx.conn.now) (state g.S.Store c.write_table.new.tx.conn.now)
          low (get_or_default c.args.tables.now at _ _ low) c.loop-table.invariant.1 c.in_ok-write_table.ensures.writes,
    )

pub returns-in_err-write_table-clause-writes : goal.returns-in_err-write_table-clause-writes
returns-in_err-write_table-clause-writes g c =
    writes_failed _ _ _ (state g.S.Store c.args.tx.now.conn.now) (state g.S.Store c.loop-table.tx.conn.now) (state g.S.Store c.write_table.new.tx.conn.now) tt _ c.from_residual.result c.from_residual.ensures c.loop-table.invariant.1 c.in_err-write_table.ensures.writes

pub returns-clause-writes : goal.returns-clause-writes
returns-clause-writes g c =
    writes_all (λ n. table_made c.args.change.now n c.args.filled.now) c.args.tables.now c.loop-table.table-index (state g.S.Store c.args.tx.now.conn.now) (state g.S.Store c.loop-table.tx.conn.now) (grind (arith, common_steps)) c.loop-table.invariant.1
