use Rattle.audits.proofs.Words.{Err, sym, subst, ◌∙◌, state, Untyped, SameHalf, TellsAlike}
use Rattle.audits.proofs.InHalves.{half_untyped, half_failed, half_failed_too, half_told}
use Rattle.audits.proofs.halves.half_alike.Goals as goal

pub returns-in-Err-Foreign-clause-tells : goal.returns-in-Err-Foreign-clause-tells
returns-in-Err-Foreign-clause-tells g c =
    let d = g.T.Table.table in
    let o = state g.S.Store c.args.books.now.conn.now in
    let m = state g.S.Store c.half_rows.new.tx.conn.now in
    let b = state g.M.Store c.args.replayed.now.conn.now in
    subst (λ name. TellsAlike (SameHalf d c.args.part c.args.middle.now) o m b b (Err (Untyped name))) (sym c.table_name.ensures)
    (half_untyped d c.args.part c.args.middle.now g.T.Entire.table_name g.met.T.Entire.compared_laws.called o m b (rw c.in-Err-Foreign.field-0-is at c.in-Err-Foreign.ensures.finds))

pub returns-in-Err-Store-clause-tells : goal.returns-in-Err-Store-clause-tells
returns-in-Err-Store-clause-tells g c =
    half_failed g.T.Table.table c.args.part c.args.middle.now (state g.S.Store c.args.books.now.conn.now) (state g.S.Store c.half_rows.new.tx.conn.now) (state g.M.Store c.args.replayed.now.conn.now) _ c.in-Err-Store.ensures.finds

pub returns-in-Err-clause-tells : goal.returns-in-Err-clause-tells
returns-in-Err-clause-tells g c =
    half_failed_too g.T.Table.table c.args.part c.args.middle.now (state g.S.Store c.args.books.now.conn.now) (state g.S.Store c.half_rows.new.tx.conn.now)
    (state g.M.Store c.args.replayed.now.conn.now) (state g.M.Store c.half_rows-2.new.tx.conn.now) _ _ c.in-Ok.ensures.finds c.in-Err.ensures.finds

pub returns-clause-tells : goal.returns-clause-tells
returns-clause-tells g c =
    half_told g.T.Table.table c.args.part c.args.middle.now (state g.S.Store c.args.books.now.conn.now) (state g.S.Store c.half_rows.new.tx.conn.now)
    (state g.M.Store c.args.replayed.now.conn.now) (state g.M.Store c.half_rows-2.new.tx.conn.now) c.in-Ok.rows c.in-Ok-half_rows.rows c.are_same.result
    (λ yes. sym c.as_slice.ensures.value ∙ c.are_same.ensures.0 yes ∙ c.as_slice-2.ensures.value) c.in-Ok.ensures.finds c.in-Ok-half_rows.ensures.finds
