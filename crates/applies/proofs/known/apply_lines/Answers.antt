use Rattle.applies.proofs.Words.{refl, err_from_is_err_and, state}
use Rattle.applies.proofs.Walked.{all_wrong}
use Rattle.applies.proofs.WalkEnds.{then_left}
use Rattle.applies.proofs.Wants.{result_told}
use Rattle.applies.proofs.known.apply_lines.Goals as goal

pub returns-clause-applied : goal.returns-clause-applied
returns-clause-applied g c clean left first begun acts history holds start day =
    let h = c.in_ok-pass_known.ensures.passed (c.go_on.ensures.clean clean) first begun acts history holds in
    c.go_on.ensures.applied clean left first begun acts history h.0 (h.1 left start day)

pub returns-clause-survives : goal.returns-clause-survives
returns-clause-survives g c =
    then_left (state g.S.Store c.args.books.now.conn) (state g.S.Store c.pass_known.new.books.conn) (state g.S.Store c.go_on.new.books.conn) _ _ _ c.pass_known.ensures.survives c.go_on.ensures.survives
    (λ clean trees none left first begun acts history holds start day. absurd (none first acts history holds.keeps))
    (λ clean trees p left first begun acts history holds start day. let h = c.in_ok-pass_known.ensures.passed (c.go_on.ensures.clean clean) first begun acts history holds in p left first begun acts history h.0 (h.1 left start day))

pub returns-in_err-pass_known-clause-applied : goal.returns-in_err-pass_known-clause-applied
returns-in_err-pass_known-clause-applied g c clean left first begun acts history holds start day =
    let h = c.in_err-pass_known.ensures.passed clean first begun acts history holds in
    let (fault, is, same) = err_from_is_err_and c.from_residual.result c.from_residual.ensures.1 in
    rw is (rw same (all_wrong g.S.Store g.R.Read.remaining left first begun acts history c.pass_known.new.books h.0 c.pass_known.new.lines c.in_err-pass_known.field-0.0 (h.1 left start day)))

pub returns-clause-foreign : goal.returns-clause-foreign
returns-clause-foreign g c clean left first acts history holds start =
    let h = c.in_ok-pass_known.ensures.passed (c.go_on.ensures.clean clean) first c.args.lines.day acts history holds in
    result_told g.S.Store c.go_on.new.books c.go_on.result (λ is. absurd (c.go_on.ensures.own clean left first c.args.lines.day acts history h.0 (h.1 left start refl) is))

pub returns-in_err-pass_known-clause-foreign : goal.returns-in_err-pass_known-clause-foreign
returns-in_err-pass_known-clause-foreign g c clean left first acts history holds start =
    let (fault, is, same) = err_from_is_err_and c.from_residual.result c.from_residual.ensures.1 in
    rw is (rw same (c.in_err-pass_known.ensures.foreign clean first acts history holds start.done))
