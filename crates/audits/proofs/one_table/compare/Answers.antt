use Rattle.audits.proofs.Words.{Err, sym, subst, state, Untyped, SameCalled, Tells}
use Rattle.audits.proofs.Telling.{told_untyped, told_failed, told_failed_too, told_rows}
use Rattle.audits.proofs.one_table.compare.Goals as goal

pub returns-in-Err-Foreign-clause-tells : goal.returns-in-Err-Foreign-clause-tells
returns-in-Err-Foreign-clause-tells g c =
    let d = g.T.Table.table in
    let o = state g.S.Store c.args.books.now.conn.now in
    let m = state g.S.Store c.all_rows.new.tx.conn.now in
    let b = state g.M.Store c.args.replayed.now.conn.now in
    subst (λ name. Tells (SameCalled g.T.Entire.table_name) o m b b (Err (Untyped name))) (sym c.table_name.ensures)
    (told_untyped d g.T.Entire.table_name g.T.Entire.order g.T.Entire.named g.met.T.Entire.compared_laws o m b (rw c.in-Err-Foreign.field-0-is at c.in-Err-Foreign.ensures.finds))

pub returns-in-Err-Store-clause-tells : goal.returns-in-Err-Store-clause-tells
returns-in-Err-Store-clause-tells g c =
    told_failed g.T.Table.table g.T.Entire.table_name g.T.Entire.order g.T.Entire.named g.met.T.Entire.compared_laws (state g.S.Store c.args.books.now.conn.now) (state g.S.Store c.all_rows.new.tx.conn.now) (state g.M.Store c.args.replayed.now.conn.now) _ c.in-Err-Store.ensures.finds

pub returns-in-Err-clause-tells : goal.returns-in-Err-clause-tells
returns-in-Err-clause-tells g c =
    told_failed_too g.T.Table.table g.T.Entire.table_name g.T.Entire.order g.T.Entire.named g.met.T.Entire.compared_laws (state g.S.Store c.args.books.now.conn.now) (state g.S.Store c.all_rows.new.tx.conn.now)
    (state g.M.Store c.args.replayed.now.conn.now) (state g.M.Store c.all_rows-2.new.tx.conn.now) _ _ c.in-Ok.ensures.finds c.in-Err.ensures.finds

pub returns-clause-tells : goal.returns-clause-tells
returns-clause-tells g c =
    told_rows g.T.Table.table g.T.Entire.table_name g.T.Entire.order g.T.Entire.named g.met.T.Entire.compared_laws (state g.S.Store c.args.books.now.conn.now) (state g.S.Store c.all_rows.new.tx.conn.now)
    (state g.M.Store c.args.replayed.now.conn.now) (state g.M.Store c.all_rows-2.new.tx.conn.now) c.in-Ok.rows c.in-Ok-all_rows.rows c.first_difference.result c.deref_mut.result.now c.deref_mut-2.result.now c.deref_mut.ensures.value c.deref_mut-2.ensures.value
    c.in-Ok.ensures.finds c.in-Ok-all_rows.ensures.finds c.first_difference.ensures.none c.first_difference.ensures.some
