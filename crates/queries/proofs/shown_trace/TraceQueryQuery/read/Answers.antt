use Rattle.queries.proofs.Words.{sym, ◌∙◌, option_copied, has_read, fails_first, fails_later, and_known}
use Rattle.queries.proofs.Asked.{asked}
use Rattle.queries.proofs.shown_trace.TraceQueryQuery.read.Goals as goal

pub returns-in_err-head-clause-read : goal.returns-in_err-head-clause-read
returns-in_err-head-clause-read g c = fails_first c.from_residual.ensures c.in_err-head.ensures.read

pub returns-in_err-found-in-Ok-clause-read : goal.returns-in_err-found-in-Ok-clause-read
returns-in_err-found-in-Ok-clause-read g c = fails_later (has_read c.in_ok-head.ensures.read) c.from_residual-in_err-found-in-Ok.ensures c.in_err-found-in-Ok.ensures.read

pub returns-in_ok-found-in-Ok-clause-read : goal.returns-in_ok-found-in-Ok-clause-read
returns-in_ok-found-in-Ok-clause-read g c =
    asked (option_copied c.args._known) (and_known c.in_ok-head.ensures.read c.in_ok-found-in-Ok.ensures.read) (λ t is h. h.1 (sym c.in-Ok.is ∙ h.0))

pub returns-in-Err-clause-read : goal.returns-in-Err-clause-read
returns-in-Err-clause-read g c = asked (option_copied c.args._known) c.in_ok-head.ensures.read (λ t is h. sym c.in-Err.is ∙ h)
