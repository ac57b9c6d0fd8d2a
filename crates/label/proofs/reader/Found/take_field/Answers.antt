use Rattle.std.proofs.Common.{rules}
use Rattle.label.proofs.reader.Found.take_field.Goals as goal

pub returns-in_ok-new-in-ForGtin-clause-ok : goal.returns-in_ok-new-in-ForGtin-clause-ok
returns-in_ok-new-in-ForGtin-clause-ok c = search rules
