use Rattle.std.proofs.Common.{rules}
use Rattle.label.proofs.reader.without_prefix.Goals as goal

pub returns-in-93-2-clause-ok : goal.returns-in-93-2-clause-ok
returns-in-93-2-clause-ok c = search rules
