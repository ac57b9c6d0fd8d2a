use Rattle.slices.proofs.ReadSteps.{has_read, fails_first, fails_later}
use Rattle.slices.proofs.KnowingSteps.{and_known, known_told}
use Rattle.slices.proofs.picks.read_order.Goals as goal

pub returns-in_err-orders-clause-read : goal.returns-in_err-orders-clause-read
returns-in_err-orders-clause-read g c = fails_first c.from_residual.ensures c.in_err-orders.ensures.read

pub returns-in_err-lines-clause-read : goal.returns-in_err-lines-clause-read
returns-in_err-lines-clause-read g c = fails_later (has_read c.in_ok-orders.ensures.read) c.from_residual-in_err-lines.ensures c.in_err-lines.ensures.read

pub returns-clause-read : goal.returns-clause-read
returns-clause-read g c = known_told (and_known c.in_ok-orders.ensures.read c.in_ok-lines.ensures.read) (λ t h. record { orders = h.0; no_urgents = c.new.ensures.items; lines = h.1 })
