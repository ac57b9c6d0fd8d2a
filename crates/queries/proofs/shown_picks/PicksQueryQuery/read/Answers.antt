use Rattle.queries.proofs.Words.{refl, sym, ◌∙◌, option_copied, has_read, fails_first, fails_later, and_known}
use Rattle.queries.proofs.Asked.{asked}
use Rattle.queries.proofs.shown_picks.PicksQueryQuery.read.Goals as goal

pub returns-in_err-order-clause-read : goal.returns-in_err-order-clause-read
returns-in_err-order-clause-read g c = fails_first c.from_residual.ensures c.in_err-order.ensures.read

pub returns-in_err-found-in-Some-clause-read : goal.returns-in_err-found-in-Some-clause-read
returns-in_err-found-in-Some-clause-read g c = fails_later (has_read c.in_ok-order.ensures.read) c.from_residual-in_err-found-in-Some.ensures c.in_err-found-in-Some.ensures.read

pub returns-in_ok-found-in-Some-clause-read : goal.returns-in_ok-found-in-Some-clause-read
returns-in_ok-found-in-Some-clause-read g c = asked (option_copied c.args._known) (and_known c.in_ok-order.ensures.read c.in_ok-found-in-Some.ensures.read) (λ t is h. (sym h.0 ∙ c.in-Some.is, h.1))

pub returns-in-None-clause-read : goal.returns-in-None-clause-read
returns-in-None-clause-read g c = asked (option_copied c.args._known) c.in_ok-order.ensures.read (λ t is h. (sym h ∙ c.in-None.is, refl))
