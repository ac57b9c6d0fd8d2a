use Rattle.std.proofs.Common.{rules}
use Rattle.tables.proofs.meta.row_at.Goals as goal

pub returns-in-Ok-Ok-Ok-Some-clause-ok : goal.returns-in-Ok-Ok-Ok-Some-clause-ok
returns-in-Ok-Ok-Ok-Some-clause-ok c = search rules
