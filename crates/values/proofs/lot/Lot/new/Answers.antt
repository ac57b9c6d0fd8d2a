use Rattle.std.proofs.Common.{rules}
use Rattle.values.proofs.lot.Lot.new.Goals as goal

pub returns-in-Some : goal.returns-in-Some
returns-in-Some c = search rules

pub returns-in-None : goal.returns-in-None
returns-in-None c = search rules

pub returns-then-not-are_in_set_82-clause-value : goal.returns-then-not-are_in_set_82-clause-value
returns-then-not-are_in_set_82-clause-value c = search rules
