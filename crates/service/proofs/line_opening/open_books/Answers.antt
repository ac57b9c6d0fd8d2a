use Rattle.std.proofs.Common.{arith}
use Rattle.service.proofs.Failing.{unopened}
use Rattle.service.proofs.line_opening.open_books.Goals as goal

pub returns-in-Ok-clause-books : goal.returns-in-Ok-clause-books
returns-in-Ok-clause-books g c clean first acts history rows =
    let was = c.in-Ok.ensures in (
      record { keeps = was.books clean first acts history rows; day = was.today clean first acts history rows },
      was.kept clean first acts history rows,
    )

pub returns-in-Ok-clause-clean : goal.returns-in-Ok-clause-clean
returns-in-Ok-clause-clean g c clean = omega (arith, clean, c.in-Ok.ensures.opens.clean)

pub returns-in-Err-clause-left : goal.returns-in-Err-clause-left
returns-in-Err-clause-left g c =
    let was = c.in-Err.ensures in
    let found = c.in-Err.fault in
    unopened g.S.Store c.args.conn found.left c.cause.result.0 found.fault c.cause.result.1 c.cause.ensures.left c.cause.ensures.fault was.left was.foreign was.known was.again (λ none. (was.other none).0)
