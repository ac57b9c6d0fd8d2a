use Rattle.queries.proofs.Words.{option_copied, fails_first, then_read}
use Rattle.queries.proofs.Asked.{asked}
use Rattle.queries.proofs.BinRight.{no_bin, of_bin}
use Rattle.queries.proofs.shown_bin.BinQueryQuery.read.Goals as goal

pub returns-in_err-found-clause-read : goal.returns-in_err-found-clause-read
returns-in_err-found-clause-read g c = fails_first c.from_residual.ensures c.in_err-found.ensures.read

pub returns-in-Some-clause-read : goal.returns-in-Some-clause-read
returns-in-Some-clause-read g c =
    let query = c.args.self.now in
    then_read c.in_ok-found.ensures.read c.read_behind.ensures.read
    (λ t found p q is. let one = p is.1 in let two = q one.1 in (of_bin t query.bin query.behind c.in_ok-found.found c.in-Some.bin c.in-Some.is one.0 found two.0, two.1))

pub returns-in-None-clause-read : goal.returns-in-None-clause-read
returns-in-None-clause-read g c =
    let query = c.args.self.now in
    asked (option_copied c.args._known) c.in_ok-found.ensures.read (λ t is h. no_bin t query.bin query.behind c.in_ok-found.found c.in-None.is h)
