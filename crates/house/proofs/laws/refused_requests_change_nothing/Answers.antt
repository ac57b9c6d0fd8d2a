use Rattle.house.proofs.StepLaws.{refused_requests_change_nothing as holds}
use Rattle.house.proofs.laws.refused_requests_change_nothing.Goals as goal

pub returns : goal.returns
returns c = holds
