use Rattle.audits.proofs.Words.{rules, state, HasCleanDisk}
use Rattle.audits.proofs.Telling.{earlier}
use Rattle.audits.proofs.Raised.{begun_over}
use Rattle.audits.proofs.whole.audit_open.Goals as goal

pub returns-clause-foreign : goal.returns-clause-foreign
returns-clause-foreign g c = λ clean ready.
    let last = state g.S.Store c.audit_raised-finding.new.tx.conn.now in
    let new = state g.S.Store c.rollback.new.self.0 in
    let here : HasCleanDisk new = search (rules, clean) in
    let begun = begun_over g.S.Store c.args.conn.now c.transaction-tx.result.conn.now c.args.found c.transaction-tx.ensures.begun ready in
    c.audit_raised-finding.ensures.foreign (earlier last new c.rollback.ensures.survives here) (state g.S.Store c.args.conn.now).now.trees begun
