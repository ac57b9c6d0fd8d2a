use Rattle.books_schema.proofs.Words.{arith, state, HasCleanDisk, kept_then, on_ok_then, if_both, number}
use Rattle.books_schema.proofs.BringLemmas.{written}
use Rattle.books_schema.proofs.migration.write_new.Goals as goal

pub returns-clause-done : goal.returns-clause-done
returns-clause-done g c clean older base room has fills =
    let old = state g.S.Store c.args.tx.now.conn.now in
    let mid = state g.S.Store c.raise_meta.new.tx.conn.now in
    let new = state g.S.Store c.add_all.new.tx.conn.now in
    let was : HasCleanDisk mid = omega (arith, clean, c.add_all.ensures.writes.survives.clean) in
    let raised = c.in_ok-raise_meta.ensures.done was room.ready in
    let raised_typed = c.in_ok-raise_meta.ensures.typed was room.ready (number older) has.typed in
    let added = if_both c.add_all.result _ _ (c.add_all.ensures.writes.done clean raised.ready) (c.add_all.ensures.were_typed clean raised.ready) in
    on_ok_then c.add_all.result added (written older base old mid new c.args.row.now c.args.least.now room has fills raised raised_typed)

pub returns-clause-kept : goal.returns-clause-kept
returns-clause-kept g c clean =
    let old = state g.S.Store c.args.tx.now.conn.now in
    let mid = state g.S.Store c.raise_meta.new.tx.conn.now in
    let new = state g.S.Store c.add_all.new.tx.conn.now in
    let was : HasCleanDisk mid = omega (arith, clean, c.add_all.ensures.writes.survives.clean) in
    kept_then old mid new (c.in_ok-raise_meta.ensures.kept was) (c.add_all.ensures.writes.kept clean)
