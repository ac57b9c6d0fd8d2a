use Rattle.applies.proofs.Standby.{standby}
use Rattle.applies.proofs.laws.standby_is_primary.Goals as goal

pub returns : goal.returns
returns c = standby
