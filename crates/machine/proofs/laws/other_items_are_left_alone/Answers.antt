use Rattle.machine.proofs.histories.OtherItems as items
use Rattle.machine.proofs.laws.other_items_are_left_alone.Goals as goal

pub returns : goal.returns
returns c = items.other_items_are_left_alone
