use Rattle.rules.proofs.Words.{IsSoughtTwice}
use Rattle.rules.proofs.customer_orders.names_item_twice.Given as goal

abbrev pub invariant-loop-index : goal.invariant-loop-index
invariant-loop-index l = IsSoughtTwice l.lines l.index
