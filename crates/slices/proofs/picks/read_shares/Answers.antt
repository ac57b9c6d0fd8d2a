use Rattle.slices.proofs.ReadSteps.{has_read, fails_first, fails_later}
use Rattle.slices.proofs.KnowingSteps.{and_known, known_told}
use Rattle.slices.proofs.picks.read_shares.Goals as goal

pub returns-in_err-staged-clause-read : goal.returns-in_err-staged-clause-read
returns-in_err-staged-clause-read g c = fails_first c.from_residual.ensures c.in_err-staged.ensures.read

pub returns-in_err-reserved-clause-read : goal.returns-in_err-reserved-clause-read
returns-in_err-reserved-clause-read g c = fails_later (has_read c.in_ok-staged.ensures.read) c.from_residual-in_err-reserved.ensures c.in_err-reserved.ensures.read

pub returns-clause-read : goal.returns-clause-read
returns-clause-read g c = known_told (and_known c.in_ok-staged.ensures.read c.in_ok-reserved.ensures.read) (λ t h. record { staged = h.0; reserved = h.1 })
