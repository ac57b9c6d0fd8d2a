use Rattle.machine.proofs.histories.LegalHistories as histories
use Rattle.machine.proofs.laws.never_overdrawn.Goals as goal

pub returns : goal.returns
returns c = histories.history_never_overdrawn
