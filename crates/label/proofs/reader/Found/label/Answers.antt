use Rattle.std.proofs.Common.{rules}
use Rattle.label.proofs.reader.Found.label.Goals as goal

pub returns-in_default : goal.returns-in_default
returns-in_default c = search rules

pub returns-in-Some-Some-Some : goal.returns-in-Some-Some-Some
returns-in-Some-Some-Some c = search rules
