use Rattle.commands.specs.Spelling.{spelling}
use Rattle.commands.proofs.spelling.spell.Goals as goal

pub returns-in-Order : goal.returns-in-Order
unfolding spelling
returns-in-Order c = rw c.in-Order.is c.spell_order.ensures

pub returns-in-Pick : goal.returns-in-Pick
unfolding spelling
returns-in-Pick c = rw c.in-Pick.is c.spell_picking.ensures

pub returns-in-Unpick : goal.returns-in-Unpick
unfolding spelling
returns-in-Unpick c = rw c.in-Unpick.is c.spell_picking-in-Unpick.ensures

pub returns-in-Urgent : goal.returns-in-Urgent
unfolding spelling
returns-in-Urgent c = rw c.in-Urgent.is c.spell_order-in-Urgent.ensures
