use Rattle.machine.proofs.histories.Notices as notices
use Rattle.machine.proofs.laws.traced.Goals as goal

pub returns : goal.returns
returns c = notices.traced
