use Rattle.machine.proofs.histories.Recalls as recalls
use Rattle.machine.proofs.laws.recall_disturbs_none.Goals as goal

pub returns : goal.returns
returns c = record { earlier = recalls.recall_disturbs_none; later_alone = recalls.recall_disturbs_later_alone }
