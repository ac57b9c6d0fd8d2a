use Rattle.queries.proofs.Words.{has_read, read_on, fails_first, fails_later, and_known, known_told}
use Rattle.queries.proofs.shown_trace.read_standing.Goals as goal

pub returns-in_err-meta-clause-read : goal.returns-in_err-meta-clause-read
returns-in_err-meta-clause-read g c = fails_first c.from_residual.ensures c.in_err-meta.ensures.read

pub returns-in_err-least-clause-read : goal.returns-in_err-least-clause-read
returns-in_err-least-clause-read g c = fails_later (has_read c.in_ok-meta.ensures.read) c.from_residual-in_err-least.ensures c.in_err-least.ensures.read

pub returns-in_err-recalls-clause-read : goal.returns-in_err-recalls-clause-read
returns-in_err-recalls-clause-read g c = fails_later (read_on (has_read c.in_ok-meta.ensures.read) c.in_ok-least.ensures.read) c.from_residual-in_err-recalls.ensures c.in_err-recalls.ensures.read

pub returns-clause-read : goal.returns-clause-read
returns-clause-read g c = known_told (and_known (and_known c.in_ok-meta.ensures.read c.in_ok-least.ensures.read) c.in_ok-recalls.ensures.read) (λ t h. record { is_meta = h.0.0; asked = h.0.1; recalled = h.1 })
