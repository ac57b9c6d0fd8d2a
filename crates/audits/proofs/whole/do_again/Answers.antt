use Rattle.audits.proofs.Words.{length, ap, subst, state, Spell, BreakUnspelled, BreakRefused, AreNone}
use Rattle.audits.proofs.Findings.{found_held, says_unspelled, says_refused, if_ok_then}
use Rattle.audits.proofs.whole.do_again.Goals as goal

pub returns-in-Ok-clause-found : goal.returns-in-Ok-clause-found
returns-in-Ok-clause-found g c = λ clean ready repeats.
    let done = c.in-Ok.ensures.done in
    if_ok_then c.hold_against.result _ _
    (found_held c.args.day (state g.S.Store c.args.tx.now.conn.now).now.trees c.args.rows.items repeats done.acts (length c.as_slice-acts.result.now) (subst (λ rs. Spell rs done.acts) c.reverse.ensures.items done.spelled) done.history (ap length c.as_slice-acts.ensures.value))
    (c.hold_against.ensures.held clean ready done.acts done.books)

pub returns-in-Err-Unspelled-clause-found : goal.returns-in-Err-Unspelled-clause-found
returns-in-Err-Unspelled-clause-found g c = λ clean ready repeats.
    rw c.in-Err-Unspelled.field-0-is
    (says_unspelled c.args.day (state g.S.Store c.args.tx.now.conn.now).now.trees c.args.rows.items repeats c.in-Err-Unspelled.act
    (subst (λ rs. BreakUnspelled c.args.day rs c.in-Err-Unspelled.act) c.reverse.ensures.items (subst (AreNone c.args.day c.reverse.new.self.items) c.in-Err-Unspelled.field-0-is c.in-Err-Unspelled.ensures.none)))

pub returns-in-Err-Refused-clause-found : goal.returns-in-Err-Refused-clause-found
returns-in-Err-Refused-clause-found g c = λ clean ready repeats.
    rw c.in-Err-Refused.field-0-is
    (says_refused c.args.day (state g.S.Store c.args.tx.now.conn.now).now.trees c.args.rows.items repeats c.in-Err-Refused.act c.in-Err-Refused.why
    (subst (λ rs. BreakRefused c.args.day rs c.in-Err-Refused.act c.in-Err-Refused.why) c.reverse.ensures.items (subst (AreNone c.args.day c.reverse.new.self.items) c.in-Err-Refused.field-0-is c.in-Err-Refused.ensures.none)))
