use Rattle.slices.proofs.ReadSteps.{has_read, read_on, fails_first, fails_later}
use Rattle.slices.proofs.KnowingSteps.{and_known, known_told}
use Rattle.slices.proofs.picks.read_goods.Goals as goal

pub returns-in_err-items-clause-read : goal.returns-in_err-items-clause-read
returns-in_err-items-clause-read g c = fails_first c.from_residual.ensures c.in_err-items.ensures.read

pub returns-in_err-least-clause-read : goal.returns-in_err-least-clause-read
returns-in_err-least-clause-read g c = fails_later (has_read c.in_ok-items.ensures.read) c.from_residual-in_err-least.ensures c.in_err-least.ensures.read

pub returns-in_err-lots-clause-read : goal.returns-in_err-lots-clause-read
returns-in_err-lots-clause-read g c = fails_later (read_on (has_read c.in_ok-items.ensures.read) c.in_ok-least.ensures.read) c.from_residual-in_err-lots.ensures c.in_err-lots.ensures.read

pub returns-in_err-recalls-clause-read : goal.returns-in_err-recalls-clause-read
returns-in_err-recalls-clause-read g c = fails_later (read_on (read_on (has_read c.in_ok-items.ensures.read) c.in_ok-least.ensures.read) c.in_ok-lots.ensures.read) c.from_residual-in_err-recalls.ensures c.in_err-recalls.ensures.read

pub returns-in_err-stock-clause-read : goal.returns-in_err-stock-clause-read
returns-in_err-stock-clause-read g c =
    fails_later (read_on (read_on (read_on (has_read c.in_ok-items.ensures.read) c.in_ok-least.ensures.read) c.in_ok-lots.ensures.read) c.in_ok-recalls.ensures.read) c.from_residual-in_err-stock.ensures c.in_err-stock.ensures.read

pub returns-in_err-bins-clause-read : goal.returns-in_err-bins-clause-read
returns-in_err-bins-clause-read g c =
    fails_later (read_on (read_on (read_on (read_on (has_read c.in_ok-items.ensures.read) c.in_ok-least.ensures.read) c.in_ok-lots.ensures.read) c.in_ok-recalls.ensures.read) c.in_ok-stock.ensures.read) c.from_residual-in_err-bins.ensures
    c.in_err-bins.ensures.read

pub returns-clause-read : goal.returns-clause-read
returns-clause-read g c =
    known_told
    (and_known (and_known (and_known (and_known (and_known c.in_ok-items.ensures.read c.in_ok-least.ensures.read) c.in_ok-lots.ensures.read) c.in_ok-recalls.ensures.read) c.in_ok-stock.ensures.read) c.in_ok-bins.ensures.read)
    (λ t h. record { items = h.0.0.0.0.0; least = h.0.0.0.0.1; bins = h.1; lots = h.0.0.0.1; recalls = h.0.0.1; stock = h.0.1 })
