use Rattle.applies.proofs.Words.{inl, inr, err_from_is_err_and, survives_weaker}
use Rattle.applies.proofs.NextLine.{misfits}
use Rattle.applies.proofs.next.do_line.Goals as goal

pub returns-clause-done : goal.returns-clause-done
returns-clause-done g c clean first begun acts history holds at = c.do_next.ensures.done clean first begun acts c.args.line.now history holds at c.in_ok-next.ensures

pub returns-clause-survives : goal.returns-clause-survives
returns-clause-survives g c =
    survives_weaker _ _ _ _ (λ clean trees p first begun acts history holds at. p first begun acts c.args.line.now history holds at c.in_ok-next.ensures) c.do_next.ensures.survives

pub returns-in_err-next-clause-done : goal.returns-in_err-next-clause-done
returns-in_err-next-clause-done g c clean first begun acts history holds at =
    let (fault, is, same) = err_from_is_err_and c.from_residual.result c.from_residual.ensures.1 in
    rw is (rw same (holds, elim c.in_err-next.ensures [ inl own ↦ inl own | inr misfit ↦ inr (misfits first begun acts c.args.line.now c.args.at.now at c.in_err-next.field-0.0 misfit.0 misfit.1) ]))
