use Rattle.changes.proofs.Words.{change_made}
use Rattle.changes.proofs.writing.write_change.Goals as goal

pub returns-clause-writes : goal.returns-clause-writes
unfolding change_made
returns-clause-writes g c = c.write_tables.ensures.writes
