use Rattle.audits.proofs.Words.{sym, ◌∙◌, state, HasCleanDisk, foreign_if, either_told, CannotBeRaised, SaysIn, IsFound}
use Rattle.audits.proofs.Telling.{earlier}
use Rattle.audits.proofs.Findings.{if_ok_then, never_of_store, either_of_store}
use Rattle.audits.proofs.Raised.{found_shown}
use Rattle.audits.proofs.whole.audit_raised.Goals as goal

pub returns-in-Ok-clause-found : goal.returns-in-Ok-clause-found
returns-in-Ok-clause-found g c = λ clean base begun.
    let m = state g.S.Store c.raise.new.tx.conn.now in
    let n = state g.S.Store c.audit_inside.new.tx.conn.now in
    let before : HasCleanDisk m = earlier m n c.audit_inside.ensures.survives clean in
    let shown = c.in-Ok.ensures.shown before base begun in
    if_ok_then c.audit_inside.result (SaysIn m.now.trees c.args.given) (IsFound c.args.found c.args.given base) (found_shown c.args.found c.args.given base m shown) (c.audit_inside.ensures.found clean shown.ready)

pub returns-in-Err-clause-foreign : goal.returns-in-Err-clause-foreign
returns-in-Err-clause-foreign g c = λ clean base begun is. c.in-Err.ensures.foreign clean base begun (foreign_if c.in-Err.fault (sym c.from.ensures ∙ is))

pub returns-in-Err-clause-fault : goal.returns-in-Err-clause-fault
returns-in-Err-clause-fault g c = either_told c.in-Err.fault c.from.result c.from.ensures

pub returns-in-Ok-clause-foreign : goal.returns-in-Ok-clause-foreign
returns-in-Ok-clause-foreign g c = λ clean base begun. never_of_store c.audit_inside.result (CannotBeRaised c.args.found base) c.audit_inside.ensures.fault

pub returns-in-Ok-clause-fault : goal.returns-in-Ok-clause-fault
returns-in-Ok-clause-fault g c = either_of_store c.audit_inside.result c.audit_inside.ensures.fault
