use Rattle.service.proofs.Words.{arith, subst, state, HasCleanDisk}
use Rattle.service.proofs.Failing.{unmade}
use Rattle.service.proofs.line_opening.make_books.Goals as goal

pub returns-in-Ok-clause-clean : goal.returns-in-Ok-clause-clean
returns-in-Ok-clause-clean g c clean =
    let last : HasCleanDisk (state g.S.Store c.in-Ok.books.conn) = subst (λ h. HasCleanDisk (state g.S.Store h)) c.close.ensures.same clean in
    omega (arith, last, c.in-Ok.ensures.survives.clean)

pub returns-in-Err-clause-left : goal.returns-in-Err-clause-left
returns-in-Err-clause-left g c =
    let was = c.in-Err.ensures in
    let found = c.in-Err.fault in
    unmade g.S.Store c.args.conn found.left c.cause.result.0 found.fault c.cause.result.1 c.cause.ensures.left c.cause.ensures.fault c.args.day was.left was.foreign was.unchanged

pub returns-in-Err-clause-foreign : goal.returns-in-Err-clause-foreign
returns-in-Err-clause-foreign g c = (returns-in-Err-clause-left g c).foreign
