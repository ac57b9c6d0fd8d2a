use Rattle.queries.proofs.Words.{KnowsRows, has_read, read_on, fails_first, fails_later, and_known, known_told, unasked}
use Rattle.queries.proofs.shown_trace.read_traced.Goals as goal

pub returns-in_err-standing-clause-read : goal.returns-in_err-standing-clause-read
returns-in_err-standing-clause-read g c = fails_first c.from_residual.ensures c.in_err-standing.ensures.read

pub returns-in_err-stock-clause-read : goal.returns-in_err-stock-clause-read
returns-in_err-stock-clause-read g c = fails_later (has_read c.in_ok-standing.ensures.read) c.from_residual-in_err-stock.ensures c.in_err-stock.ensures.read

pub returns-in_err-stages-clause-read : goal.returns-in_err-stages-clause-read
returns-in_err-stages-clause-read g c = fails_later (read_on (has_read c.in_ok-standing.ensures.read) c.in_ok-stock.ensures.read) c.from_residual-in_err-stages.ensures c.in_err-stages.ensures.read

pub returns-in_err-past-clause-read : goal.returns-in_err-past-clause-read
returns-in_err-past-clause-read g c =
    fails_later (read_on (read_on (has_read c.in_ok-standing.ensures.read) c.in_ok-stock.ensures.read) c.in_ok-stages.ensures.read) c.from_residual-in_err-past.ensures c.in_err-past.ensures.read

pub returns-clause-read : goal.returns-clause-read
returns-clause-read g c =
    known_told (and_known (and_known (and_known c.in_ok-standing.ensures.read c.in_ok-stock.ensures.read) c.in_ok-stages.ensures.read) (unasked (λ t. KnowsRows t c.read_stages.new.rows) c.in_ok-past.ensures.read))
    (λ t h head. record { head = head; standing = h.0.0.0; stock = h.0.0.1; stages = h.0.1; past = h.1 })
