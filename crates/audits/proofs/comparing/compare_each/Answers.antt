use Rattle.audits.proofs.Words.{◌<◌, length, refl, ◌∙◌, arith, common_steps, get_or_default, state}
use Rattle.audits.proofs.Telling.{tells_first, tells_more, tells_all}
use Rattle.audits.proofs.comparing.compare_each.Goals as goal

pub loop-table-init : goal.loop-table-init
loop-table-init g c = (refl, refl, tells_first (state g.S.Store c.args.books.now.conn.now) (state g.M.Store c.args.replayed.now.conn.now))

pub loop-table-preserved : goal.loop-table-preserved
loop-table-preserved g c =
    let at = c.loop-table.table-index in
    let low : at < length c.args.tables.now = grind (arith, common_steps) in (
      c.in-Ok-None.ensures.same_reference ∙ c.loop-table.invariant.0,
      c.in-Ok-None.ensures.same_reference_too ∙ c.loop-table.invariant.1,
      tells_more c.args.tables.now at _ (state g.S.Store c.args.books.now.conn.now) (state g.S.Store c.loop-table.books.conn.now) (state g.S.Store c.compare_table.new.books.conn.now) (state g.M.Store c.args.replayed.now.conn.now) (state g.M.Store c.loop-table.replayed.conn.now) (state g.M.Store c.compare_table.new.replayed.conn.now)
          low (get_or_default c.args.tables.now at _ _ low) c.loop-table.invariant.2 (rw c.in-Ok-None.field-0-is at c.in-Ok-None.ensures.tells),
    )

pub returns-clause-tells : goal.returns-clause-tells
returns-clause-tells g c =
    tells_all c.args.tables.now c.loop-table.table-index (state g.S.Store c.args.books.now.conn.now) (state g.S.Store c.loop-table.books.conn.now) (state g.M.Store c.args.replayed.now.conn.now) (state g.M.Store c.loop-table.replayed.conn.now)
    (grind (arith, common_steps)) c.loop-table.invariant.2
