use Rattle.books_schema.proofs.Words.{[], ◌⊎◌, subst, sym, IsTrue, err_from_is_err_and, state, IsUnchanged, IsRolledBack, IsOfFault}
use Rattle.books_schema.proofs.NeverRun.{of_fault}
use Rattle.books_schema.proofs.OpenLemmas.{not_run_left, left_unlimited}
use Rattle.books_schema.proofs.ready_connection.find_open.Goals as goal

pub returns-in_err-prepare-clause-failed : goal.returns-in_err-prepare-clause-failed
returns-in_err-prepare-clause-failed g c clean =
    let p = err_from_is_err_and c.from_residual.result c.from_residual.ensures.1 in
    let new = state g.S.Store c.prepare.new.self in
    let h = not_run_left _ [] (state g.S.Store c.set_step_limit.new.self) new _ (c.in_err-prepare.ensures.err clean []) in
    rw p.1 (left_unlimited (state g.S.Store c.args.conn.now) new (subst (λ m. IsUnchanged (state g.S.Store m) new ⊎ IsRolledBack (state g.S.Store m) new) c.set_step_limit.ensures h))

pub returns-in_err-prepare-clause-cause : goal.returns-in_err-prepare-clause-cause
returns-in_err-prepare-clause-cause g c clean up =
    let p = err_from_is_err_and c.from_residual.result c.from_residual.ensures.1 in
    let new = state g.S.Store c.prepare.new.self in
    let error = c.in_err-prepare.field-0.0 in
    let h = of_fault (state g.S.Store c.set_step_limit.new.self) new error (subst (λ m. IsTrue (state g.S.Store m).is_open) (sym c.set_step_limit.ensures) up) (c.in_err-prepare.ensures.err clean []) in
    rw (p.1, p.2) (subst (λ m. IsOfFault (state g.S.Store m) new error) c.set_step_limit.ensures h)
