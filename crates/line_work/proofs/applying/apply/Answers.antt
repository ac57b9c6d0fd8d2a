use Rattle.std.proofs.lemmas.Result.{err_from_is_err_and}
use Rattle.line_work.proofs.TakenIn.{fault_told, tally_told}
use Rattle.line_work.proofs.applying.apply.Goals as goal

pub returns-clause-applied : goal.returns-clause-applied
returns-clause-applied g c clean first acts history holds leaves =
    let at = g.W.Write.contents in
    tally_told g.S.Store first acts _ c.in_ok-applied.applied c.take_in.new.books c.print_applied.result (at c.args.out.now) (at c.print_applied.new.out)
    (rw c.in_ok-applied.was at (c.take_in.ensures.taken clean first acts history holds leaves)) c.print_applied.ensures

pub returns-in_err-applied-clause-applied : goal.returns-in_err-applied-clause-applied
returns-in_err-applied-clause-applied g c clean first acts history holds leaves =
    let (fault, is, same) = err_from_is_err_and c.from_residual.result c.from_residual.ensures.1 in
    rw is (rw same (fault_told g.S.Store first acts _ c.in_err-applied.field-0.0 c.take_in.new.books (g.W.Write.contents c.args.out.now) (rw c.in_err-applied.was at (c.take_in.ensures.taken clean first acts history holds leaves))))
