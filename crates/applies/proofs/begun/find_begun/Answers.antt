use Rattle.applies.proofs.Words.{IfErr-weaker, err_from_is_err_and, state, survives_weaker}
use Rattle.applies.proofs.WalkEnds.{then_left}
use Rattle.applies.proofs.Wants.{of_want, want_told}
use Rattle.applies.proofs.begun.find_begun.Goals as goal

pub returns-clause-begun : goal.returns-clause-begun
returns-clause-begun g c clean first acts history holds =
    let h = c.in_ok-found.ensures.found (c.begun_by.ensures.clean clean) first acts history holds in
    c.begun_by.ensures.begun clean first acts history h.0 h.1

pub returns-clause-fits : goal.returns-clause-fits
returns-clause-fits g c clean first acts history holds =
    let h = c.in_ok-found.ensures.found (c.begun_by.ensures.clean clean) first acts history holds in
    c.begun_by.ensures.fits clean first acts history h.0 h.1

pub returns-clause-survives : goal.returns-clause-survives
returns-clause-survives g c =
    then_left (state g.S.Store c.args.books.now.conn) (state g.S.Store c.find_start.new.books.conn) (state g.S.Store c.begun_by.new.books.conn) _ _ _ c.find_start.ensures.survives c.begun_by.ensures.survives
    (λ clean trees none first acts history holds. none first acts history holds.keeps)
    (λ clean trees none first acts history holds. none first acts history (c.in_ok-found.ensures.found (c.begun_by.ensures.clean clean) first acts history holds).0.keeps)

pub returns-in_err-found-clause-survives : goal.returns-in_err-found-clause-survives
returns-in_err-found-clause-survives g c = survives_weaker _ _ _ _ (λ clean trees none first acts history holds. none first acts history holds.keeps) c.find_start.ensures.survives

pub returns-clause-fault : goal.returns-clause-fault
returns-clause-fault g c = IfErr-weaker c.begun_by.result _ _ of_want c.begun_by.ensures.fault

pub returns-clause-foreign : goal.returns-clause-foreign
returns-clause-foreign g c clean first acts history holds = IfErr-weaker c.begun_by.result _ _ (want_told g.S.Store c.begun_by.new.books) c.begun_by.ensures.fault

pub returns-in_err-found-clause-foreign : goal.returns-in_err-found-clause-foreign
returns-in_err-found-clause-foreign g c clean first acts history holds =
    let (fault, is, same) = err_from_is_err_and c.from_residual.result c.from_residual.ensures.1 in
    rw is (rw same (c.in_err-found.ensures.foreign clean first acts history holds))
