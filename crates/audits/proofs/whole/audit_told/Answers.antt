use Rattle.audits.proofs.Words.{◌≡◌, IfOk, Some, None, reverse, sym, subst, state, Database, HasCleanDisk, IsReady, tables_in, AreRepeats, Tell, TellFirst, IsBegun, SaysIn}
use Rattle.audits.proofs.Telling.{earlier}
use Rattle.audits.proofs.Findings.{says_untyped, says_missing, says_told, if_ok_then}
use Rattle.audits.proofs.whole.audit_told.Goals as goal

pub returns-in-On-clause-found : goal.returns-in-On-clause-found
returns-in-On-clause-found g c = λ clean ready repeats.
    let o = state g.S.Store c.args.tx.now.conn.now in
    let m = state g.S.Store c.first_day.new.tx.conn.now in
    let n = state g.S.Store c.do_again.new.tx.conn.now in
    let start = c.in_ok-start.start in
    let before : HasCleanDisk m = earlier m n c.do_again.ensures.survives clean in
    let begun = subst (IsBegun start o m) c.in-On.is (c.in_ok-day.ensures.begun before ready) in
    let is : m.now ≡ o.now = begun.1 in
    let there : IsReady m.now = subst IsReady (sym is) ready in
    let rows = subst (λ (x : Database). AreRepeats (reverse c.args.rows.items) (tables_in x.trees)) (sym is) repeats in
    let says = subst (λ (x : Database). IfOk c.do_again.result (SaysIn x.trees (Some c.in-On.day))) is (c.do_again.ensures.found clean there rows) in
    if_ok_then c.do_again.result (SaysIn o.now.trees (Some c.in-On.day)) (SaysIn o.now.trees None) (says_told o.now.trees c.args.rows.items repeats start (subst (λ rs. Tell rs start) c.as_slice.ensures.value c.in_ok-start.ensures.tell) (subst (λ rs. TellFirst rs start) c.as_slice.ensures.value c.in_ok-start.ensures.first) c.in-On.day begun.0) says

pub returns-in-Missing-clause-found : goal.returns-in-Missing-clause-found
returns-in-Missing-clause-found g c = λ clean ready repeats.
    let o = state g.S.Store c.args.tx.now.conn.now in
    let m = state g.S.Store c.first_day.new.tx.conn.now in
    let start = c.in_ok-start.start in
    let begun = subst (IsBegun start o m) c.in-Missing.is (c.in_ok-day.ensures.begun clean ready) in
    says_missing o.now.trees c.args.rows.items repeats start (subst (λ rs. Tell rs start) c.as_slice.ensures.value c.in_ok-start.ensures.tell) (subst (λ rs. TellFirst rs start) c.as_slice.ensures.value c.in_ok-start.ensures.first) c.in-Missing.row begun

pub returns-in-Untyped-clause-found : goal.returns-in-Untyped-clause-found
returns-in-Untyped-clause-found g c = λ clean ready repeats.
    let o = state g.S.Store c.args.tx.now.conn.now in
    let m = state g.S.Store c.first_day.new.tx.conn.now in
    let begun = subst (IsBegun c.in_ok-start.start o m) c.in-Untyped.is (c.in_ok-day.ensures.begun clean ready) in
    says_untyped None o.now.trees c.in-Untyped.name begun
