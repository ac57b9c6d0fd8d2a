use Rattle.queries.proofs.Words.{option_copied, fails_first}
use Rattle.queries.proofs.Asked.{asked}
use Rattle.queries.proofs.shown_figures.FiguresQueryQuery.read.Goals as goal

pub returns-in_err-found-clause-read : goal.returns-in_err-found-clause-read
returns-in_err-found-clause-read g c = fails_first c.from_residual.ensures c.in_err-found.ensures.read

pub returns-clause-read : goal.returns-clause-read
returns-clause-read g c = asked (option_copied c.args.known) c.in_ok-found.ensures.read (λ t is h. record { known = option_copied c.args.known; is_known = is; are = h })
