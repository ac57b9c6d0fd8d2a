use Rattle.audits.proofs.Words.{sym, subst, state, tables_in, repeats, repeats_laws, AreAll, typed_are_all}
use Rattle.audits.proofs.reading.act_rows_about.Goals as goal

pub returns-in-Ok-clause-rows : goal.returns-in-Ok-clause-rows
returns-in-Ok-clause-rows g c = λ clean ready.
    let old = state g.S.Store c.args.tx.now.conn.now in
    subst (AreAll repeats (tables_in old.now.trees)) (sym (c.in-Ok.ensures.finds.rows clean ready)) (typed_are_all repeats repeats_laws old ready)
