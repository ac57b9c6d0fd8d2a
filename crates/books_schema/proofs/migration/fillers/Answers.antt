use Rattle.books_schema.proofs.Words.{state, unchanged}
use Rattle.books_schema.proofs.migration.fillers.Goals as goal

-- where nothing is read, nothing changes
pub returns-in-Second-clause-same : goal.returns-in-Second-clause-same
returns-in-Second-clause-same g c clean ready up = unchanged (state g.S.Store c.args.tx.now.conn.now) up
