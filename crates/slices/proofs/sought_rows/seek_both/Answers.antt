use Rattle.slices.proofs.ReadSteps.{has_read, and_then, so_told, fails_first, fails_later}
use Rattle.slices.proofs.sought_rows.seek_both.Goals as goal

pub returns-in_err-first-clause-read : goal.returns-in_err-first-clause-read
returns-in_err-first-clause-read g c = fails_first c.from_residual.ensures c.in_err-first.ensures.read

pub returns-in_err-second-clause-read : goal.returns-in_err-second-clause-read
returns-in_err-second-clause-read g c = fails_later (has_read c.in_ok-first.ensures.read) c.from_residual-in_err-second.ensures c.in_err-second.ensures.read

pub returns-clause-read : goal.returns-clause-read
returns-clause-read g c = so_told (and_then c.in_ok-first.ensures.read c.in_ok-second.ensures.read) (λ t h. h)
