use Rattle.machine.proofs.histories.Picks as picks
use Rattle.machine.proofs.laws.pick_disturbs_none.Goals as goal

pub returns : goal.returns
returns c = picks.pick_disturbs_none
