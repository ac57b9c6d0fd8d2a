use Rattle.requests.proofs.LongerTexts.{settled}
use Rattle.requests.proofs.laws.is_settled.Goals as goal

pub returns : goal.returns
returns c = settled
