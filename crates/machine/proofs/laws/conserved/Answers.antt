use Rattle.machine.proofs.histories.Conservation as conservation
use Rattle.machine.proofs.laws.conserved.Goals as goal

pub returns : goal.returns
returns c = conservation.conserved
