use Rattle.audits.proofs.Words.{None, sym, subst, state, tables_in, meta, AreAll, IsBegun}
use Rattle.audits.proofs.Beginning.{by_meta}
use Rattle.audits.proofs.first_day.day_of_books.Goals as goal

pub returns-in-Ok-clause-begun : goal.returns-in-Ok-clause-begun
returns-in-Ok-clause-begun g c = λ clean ready.
    let o = state g.S.Store c.args.tx.now.conn.now in
    let m = state g.S.Store c.all_rows.new.tx.conn.now in
    let finds = c.in-Ok.ensures.finds in
    let all = subst (AreAll meta (tables_in o.now.trees)) (sym c.as_slice.ensures.value) (finds.rows clean ready) in
    subst (IsBegun None o m) (sym c.meta_day.ensures) (by_meta o m (finds.same clean ready).0.now_is c.as_slice.result.now all)
