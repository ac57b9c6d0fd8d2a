use Rattle.machine.proofs.histories.Repeats as repeats
use Rattle.machine.proofs.laws.repeats_act_once.Goals as goal

pub returns : goal.returns
returns c = record { same_acts = repeats.repeats_act_once; first_reply = repeats.repeats_get_the_first_reply }
