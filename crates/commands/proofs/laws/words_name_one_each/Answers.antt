use Rattle.commands.proofs.Naming.{bin_kinds, order_states, card_kinds, lot_statuses}
use Rattle.commands.proofs.laws.words_name_one_each.Goals as goal

pub returns : goal.returns
returns c = record { bin_kinds = bin_kinds; order_states = order_states; card_kinds = card_kinds; lot_statuses = lot_statuses }
