use Rattle.machine.proofs.histories.Covering as covering
use Rattle.machine.proofs.laws.covered.Goals as goal

pub returns : goal.returns
returns c = covering.covered
