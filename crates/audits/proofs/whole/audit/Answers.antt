use Rattle.audits.proofs.Words.{◌≡◌, inl, inr, arith, sym, subst, ◌∙◌, ◌⊎◌, state, HasCleanDisk, Trees, if_err, IsOfNone, Found, AreRowsAt, one_found, foreign_if, store_else, either_told, CannotBeRaised, IsFound, IsFinding, AreNotRaised}
use Rattle.store.specs.declared.fault.Fault.TheVariants.{Foreign}
use Rattle.audits.proofs.Telling.{earlier}
use Rattle.audits.proofs.Findings.{if_ok_then, store_left}
use Rattle.audits.proofs.Raised.{raised_of_acts, sound_books}
use Rattle.audits.proofs.whole.audit.Goals as goal

pub returns-clause-left : goal.returns-clause-left
returns-clause-left g c =
    let was = c.in-Ok.ensures in
    let done = c.audit_in_memory-finding.ensures in
    inr (record {
      outside = done.outside;
      crash = λ clean db left. elim (done.survives.crash clean db left) [
        | inl before ↦ was.crash (earlier (state g.S.Store c.in-Ok.opened.0) (state g.S.Store c.audit_in_memory-finding.new.conn) done.survives clean) db before
        | inr none ↦ absurd none
      ];
      clean = omega (arith, was.clean, done.survives.clean);
      shield = λ h. done.survives.shield (was.shield h);
    })

pub returns-clause-found : goal.returns-clause-found
returns-clause-found g c = λ clean.
    let old = state g.S.Store c.args.conn in
    let checked = state g.S.Store c.in-Ok.opened.0 in
    let new = state g.S.Store c.audit_in_memory-finding.new.conn in
    let found = c.in-Ok.opened.1 in
    let was = c.in-Ok.ensures in
    let done = c.audit_in_memory-finding.ensures in
    let before : HasCleanDisk checked = earlier checked new done.survives clean in
    if_ok_then c.audit_in_memory-finding.result (IsFound found c.args.given checked.now.trees) (IsFinding c.args.given old)
    (λ f is. record { found = found; schema = was.found; finding = subst (λ (trees : Trees). IsFound found c.args.given trees f) (was.same before) is }) (done.found clean (was.ready before))

pub returns-clause-sound : goal.returns-clause-sound
returns-clause-sound g c = λ clean. sound_books c.audit_in_memory-finding.result c.args.given (state g.S.Store c.args.conn) (returns-clause-found g c clean)

pub returns-clause-foreign : goal.returns-clause-foreign
returns-clause-foreign g c = λ clean.
    let old = state g.S.Store c.args.conn in
    let checked = state g.S.Store c.in-Ok.opened.0 in
    let found = c.in-Ok.opened.1 in
    let was = c.in-Ok.ensures in
    let done = c.audit_in_memory-finding.ensures in
    let before : HasCleanDisk checked = earlier checked (state g.S.Store c.audit_in_memory-finding.new.conn) done.survives clean in
    if_err c.audit_in_memory-finding.result (λ e. e ≡ Foreign → CannotBeRaised found checked.now.trees) (λ e. e ≡ Foreign → IsOfNone old.now.schema ⊎ AreNotRaised old) (done.foreign clean (was.ready before))
    (λ e cannot is. inr (record { found = found; schema = was.found; foreign = subst (CannotBeRaised found) (was.same before) (cannot is) }))

pub returns-clause-known : goal.returns-clause-known
returns-clause-known g c = λ clean at schema first acts history rows.
    let old = state g.S.Store c.args.conn in
    let checked = state g.S.Store c.in-Ok.opened.0 in
    let found = c.in-Ok.opened.1 in
    let was = c.in-Ok.ensures in
    let done = c.audit_in_memory-finding.ensures in
    let before : HasCleanDisk checked = earlier checked (state g.S.Store c.audit_in_memory-finding.new.conn) done.survives clean in
    let same : at ≡ found = one_found at found old.now.schema schema was.found in
    let own : AreRowsAt found first acts checked.now.trees =
    subst (AreRowsAt found first acts) (sym (was.same before)) (subst (λ (f : Found). AreRowsAt f first acts old.committed.trees) same rows) in
    store_left c.audit_in_memory-finding.result (CannotBeRaised found checked.now.trees) (raised_of_acts found checked.now.trees first acts own) (done.foreign clean (was.ready before)) done.fault

pub returns-in-Err-clause-foreign : goal.returns-in-Err-clause-foreign
returns-in-Err-clause-foreign g c = λ clean is. inl (c.in-Err.ensures.foreign (foreign_if c.in-Err.fault (sym c.from.ensures ∙ is)))

pub returns-in-Err-clause-known : goal.returns-in-Err-clause-known
returns-in-Err-clause-known g c = λ clean at schema first acts history rows. c.from.ensures ∙ store_else c.in-Err.fault (λ is. c.in-Err.ensures.foreign is at schema)

pub returns-in-Err-clause-fault : goal.returns-in-Err-clause-fault
returns-in-Err-clause-fault g c = either_told c.in-Err.fault c.from.result c.from.ensures

pub returns-clause-other : goal.returns-clause-other
returns-clause-other g c none = absurd (none c.in-Ok.opened.1 c.in-Ok.ensures.found)
