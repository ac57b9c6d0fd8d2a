use Rattle.std.proofs.Common.{rules}
use Rattle.label.proofs.reader.identifier_of.Goals as goal

pub returns-in-48 : goal.returns-in-48
returns-in-48 c = search rules

pub returns-in-49 : goal.returns-in-49
returns-in-49 c = search rules

pub returns-in-29 : goal.returns-in-29
returns-in-29 c = search rules

pub returns-in_default-2 : goal.returns-in_default-2
returns-in_default-2 c = search rules

pub returns-in_default-3 : goal.returns-in_default-3
returns-in_default-3 c = search rules

pub returns-in_default-4 : goal.returns-in_default-4
returns-in_default-4 c = search rules
