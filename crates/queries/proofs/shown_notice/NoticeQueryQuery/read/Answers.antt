use Rattle.queries.proofs.Words.{sym, ◌∙◌, option_copied, KnowsRows, has_read, read_on, fails_first, fails_later, and_known, unasked}
use Rattle.queries.proofs.Asked.{asked}
use Rattle.queries.proofs.shown_notice.NoticeQueryQuery.read.Goals as goal

pub returns-in_err-head-clause-read : goal.returns-in_err-head-clause-read
returns-in_err-head-clause-read g c = fails_first c.from_residual.ensures c.in_err-head.ensures.read

pub returns-in_err-stock-in-Ok-clause-read : goal.returns-in_err-stock-in-Ok-clause-read
returns-in_err-stock-in-Ok-clause-read g c = fails_later (has_read c.in_ok-head.ensures.read) c.from_residual-in_err-stock-in-Ok.ensures c.in_err-stock-in-Ok.ensures.read

pub returns-in_err-shipments-in-Ok-clause-read : goal.returns-in_err-shipments-in-Ok-clause-read
returns-in_err-shipments-in-Ok-clause-read g c =
    fails_later (read_on (has_read c.in_ok-head.ensures.read) c.in_ok-stock-in-Ok.ensures.read) c.from_residual-in_err-shipments-in-Ok.ensures c.in_err-shipments-in-Ok.ensures.read

pub returns-in_ok-shipments-in-Ok-clause-read : goal.returns-in_ok-shipments-in-Ok-clause-read
returns-in_ok-shipments-in-Ok-clause-read g c =
    asked (option_copied c.args._known)
    (and_known (and_known c.in_ok-head.ensures.read c.in_ok-stock-in-Ok.ensures.read) (unasked (λ t. KnowsRows t c.read_head.new.rows) c.in_ok-shipments-in-Ok.ensures.read))
    (λ t is h. (sym c.in-Ok.is ∙ h.0.0, h.0.1, h.1))

pub returns-in-Err-clause-read : goal.returns-in-Err-clause-read
returns-in-Err-clause-read g c = asked (option_copied c.args._known) c.in_ok-head.ensures.read (λ t is h. sym c.in-Err.is ∙ h)
