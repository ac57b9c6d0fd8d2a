use Rattle.audits.proofs.Words.{◌≡◌, IfOk, sym, subst, state, Database, HasCleanDisk, IsReady, tables_in, repeats, AreAll, SaysIn}
use Rattle.audits.proofs.Findings.{says_unread}
use Rattle.audits.proofs.Telling.{earlier}
use Rattle.audits.proofs.whole.audit_inside.Goals as goal

pub returns-in-Ok-clause-found : goal.returns-in-Ok-clause-found
returns-in-Ok-clause-found g c = λ clean ready.
    let o = state g.S.Store c.args.tx.now.conn.now in
    let m = state g.S.Store c.read_acts.new.tx.conn.now in
    let n = state g.S.Store c.audit_rows.new.tx.conn.now in
    let before : HasCleanDisk m = earlier m n c.audit_rows.ensures.survives clean in
    let is : m.now ≡ o.now = c.in-Ok.ensures.same before ready in
    let there : IsReady m.now = subst IsReady (sym is) ready in
    let rows = subst (λ (x : Database). AreAll repeats (tables_in x.trees) c.in-Ok.rows.items) (sym is) (c.in-Ok.ensures.rows before ready) in
    subst (λ (x : Database). IfOk c.audit_rows.result (SaysIn x.trees c.args.given)) is (c.audit_rows.ensures.found clean there rows)

pub returns-in-Err-clause-found : goal.returns-in-Err-clause-found
returns-in-Err-clause-found g c = λ clean ready.
    let trees = (state g.S.Store c.args.tx.now.conn.now).now.trees in
    subst (λ r. IfOk r (SaysIn trees c.args.given)) (sym c.tell_unread.ensures.told) (says_unread c.args.given trees c.in-Err.unread (c.in-Err.ensures.unread clean ready))
