use Rattle.slices.proofs.ReadSteps.{then_read, fails_first}
use Rattle.slices.proofs.known_lists.urgents_among.Goals as goal

pub returns-in_err-know_urgents-clause-read : goal.returns-in_err-know_urgents-clause-read
returns-in_err-know_urgents-clause-read g c = fails_first c.from_residual.ensures c.in_err-know_urgents.ensures.read

pub returns-clause-read : goal.returns-clause-read
returns-clause-read g c = then_read c.in_ok-know_urgents.ensures.read c.seek_all_known.ensures.read (λ t found knew told known. told (knew known).1)
