use Rattle.audits.proofs.Words.{IfOk, arith, length, reverse, refl, sym, ap, subst, none-some, state, tables_in, repeats, AreAll, AreRepeats, SaysIn}
use Rattle.audits.proofs.Findings.{says_unnumbered, repeats_by_act, in_place}
use Rattle.audits.proofs.whole.audit_rows.Goals as goal

pub returns-in-Some-clause-found : goal.returns-in-Some-clause-found
returns-in-Some-clause-found g c = λ clean ready all.
    let told = c.in-Some.ensures in
    let all = subst (AreAll repeats (tables_in (state g.S.Store c.args.tx.now.conn.now).now.trees)) (sym c.deref_mut.ensures.value) all in
    says_unnumbered c.args.given (state g.S.Store c.args.tx.now.conn.now).now.trees c.deref_mut.result.now c.in-Some.key (λ k. all.found k refl)
    (λ first acts history found. none-some c.in-Some.key (sym (told.every all.once first acts history found))) (told.unnumbered all.once)

pub returns-in-None-clause-found : goal.returns-in-None-clause-found
returns-in-None-clause-found g c = λ clean ready all.
    let trees = (state g.S.Store c.args.tx.now.conn.now).now.trees in
    let sorted = c.in_default.ensures in
    let all = subst (AreAll repeats (tables_in trees)) (sym c.deref_mut.ensures.value) all in
    let there = in_place c.args.rows.items c.by_act.new.rows c.args.rows.len (omega (arith, ap length c.deref_mut.ensures.value)) (omega (arith, ap length c.deref_mut.ensures.value)) in
    subst (λ given. IfOk c.audit_told.result (SaysIn trees given)) (sym c.in-None.is)
    (c.audit_told.ensures.found clean ready (subst (λ rows. AreRepeats (reverse rows) (tables_in trees)) (sym there) (repeats_by_act (tables_in trees) c.deref_mut.result.now c.by_act.new.rows (λ k. all.found k refl) (sorted.order all.once refl) (sorted.found all.once))))

pub returns-in-Some-given-clause-found : goal.returns-in-Some-given-clause-found
returns-in-Some-given-clause-found g c = λ clean ready all.
    let trees = (state g.S.Store c.args.tx.now.conn.now).now.trees in
    let sorted = c.in_default.ensures in
    let all = subst (AreAll repeats (tables_in trees)) (sym c.deref_mut.ensures.value) all in
    let there = in_place c.args.rows.items c.by_act.new.rows c.args.rows.len (omega (arith, ap length c.deref_mut.ensures.value)) (omega (arith, ap length c.deref_mut.ensures.value)) in
    subst (λ given. IfOk c.do_again.result (SaysIn trees given)) (sym c.in-Some-given.is)
    (c.do_again.ensures.found clean ready (subst (λ rows. AreRepeats (reverse rows) (tables_in trees)) (sym there) (repeats_by_act (tables_in trees) c.deref_mut.result.now c.by_act.new.rows (λ k. all.found k refl) (sorted.order all.once refl) (sorted.found all.once))))
