use Rattle.queries.proofs.Words.{option_copied, has_read, fails_first, fails_later, and_known}
use Rattle.queries.proofs.Asked.{asked}
use Rattle.queries.proofs.NamesRight.{names_from_first, names_behind, no_item}
use Rattle.queries.proofs.shown_names.ItemNamesQueryQuery.read.Goals as goal

pub returns-in_err-found-in-None-clause-read : goal.returns-in_err-found-in-None-clause-read
returns-in_err-found-in-None-clause-read g c = fails_first c.from_residual.ensures c.in_err-found-in-None.ensures.read

pub returns-in_ok-found-in-None-clause-read : goal.returns-in_ok-found-in-None-clause-read
returns-in_ok-found-in-None-clause-read g c = asked (option_copied c.args._known) c.in_ok-found-in-None.ensures.read (λ t is h. names_from_first t c.args.self.now.behind c.in-None.is c.in_ok-found-in-None.found h)

pub returns-in_err-last-in-Some-clause-read : goal.returns-in_err-last-in-Some-clause-read
returns-in_err-last-in-Some-clause-read g c = fails_first c.from_residual-in_err-last-in-Some.ensures c.in_err-last-in-Some.ensures.read

pub returns-in_err-found-in-Some-last-clause-read : goal.returns-in_err-found-in-Some-last-clause-read
returns-in_err-found-in-Some-last-clause-read g c = fails_later (has_read c.in_ok-last-in-Some.ensures.read) c.from_residual-in_err-found-in-Some-last.ensures c.in_err-found-in-Some-last.ensures.read

pub returns-in_ok-found-in-Some-last-clause-read : goal.returns-in_ok-found-in-Some-last-clause-read
returns-in_ok-found-in-Some-last-clause-read g c =
    asked (option_copied c.args._known) (and_known c.in_ok-last-in-Some.ensures.read c.in_ok-found-in-Some-last.ensures.read)
    (λ t is h. names_behind t c.args.self.now.behind c.in-Some.gtin c.in-Some.is c.in_ok-last-in-Some.last c.in-Some-last.seen c.in-Some-last.is h.0 c.in_ok-found-in-Some-last.found h.1)

pub returns-in-None-last-clause-read : goal.returns-in-None-last-clause-read
returns-in-None-last-clause-read g c = asked (option_copied c.args._known) c.in_ok-last-in-Some.ensures.read (λ t is h. no_item t c.args.self.now.behind c.in-Some.gtin c.in-Some.is c.in_ok-last-in-Some.last c.in-None-last.is h)
