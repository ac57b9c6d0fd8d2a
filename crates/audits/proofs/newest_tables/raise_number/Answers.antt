use Rattle.audits.proofs.Words.{sym, subst, arith, state, HasCleanDisk, IsReady, if_both, on_ok_then, own_rows}
use Rattle.audits.proofs.Raised.{shown_still, shown_raised, raised_there}
use Rattle.audits.proofs.newest_tables.raise_number.Goals as goal

pub returns-in-Ok-clause-shown : goal.returns-in-Ok-clause-shown
returns-in-Ok-clause-shown g c = λ clean ready.
    let old = state g.S.Store c.args.tx.now.conn.now in
    let mid = state g.S.Store c.meta_row_at.new.tx.conn.now in
    let new = state g.S.Store c.raise_meta.new.tx.conn.now in
    let was : HasCleanDisk mid = omega (arith, clean, c.raise_meta.ensures.survives.clean) in
    let same = c.in-Ok.ensures.same was ready in
    let ready_still = subst IsReady (sym same.0.now_is) ready in
    let row = c.in-Ok.ensures.row was ready in
    let both = if_both c.raise_meta.result _ _ (c.raise_meta.ensures.done clean ready_still) (c.raise_meta.ensures.typed clean ready_still 3 (own_rows 3 old mid same row.typed)) in
    on_ok_then c.raise_meta.result both (λ both. shown_raised old mid new c.in-Ok.row row same both.0 both.1)

pub returns-in-Err-Foreign-clause-shown : goal.returns-in-Err-Foreign-clause-shown
returns-in-Err-Foreign-clause-shown g c = λ clean ready.
    let none = c.in-Err-Foreign.ensures in
    shown_still (state g.S.Store c.args.tx.now.conn.now) (state g.S.Store c.meta_row_at.new.tx.conn.now) ready (none.still clean ready c.in-Err-Foreign.field-0-is) (none.foreign clean ready c.in-Err-Foreign.field-0-is)

pub returns-in-Ok-clause-never_foreign : goal.returns-in-Ok-clause-never_foreign
returns-in-Ok-clause-never_foreign g c = λ clean ready.
    let old = state g.S.Store c.args.tx.now.conn.now in
    let mid = state g.S.Store c.meta_row_at.new.tx.conn.now in
    let was : HasCleanDisk mid = omega (arith, clean, c.raise_meta.ensures.survives.clean) in
    let same = c.in-Ok.ensures.same was ready in
    let ready_still = subst IsReady (sym same.0.now_is) ready in
    raised_there c.raise_meta.result old mid c.in-Ok.row same (c.in-Ok.ensures.row was ready) (c.raise_meta.ensures.foreign clean ready_still)
