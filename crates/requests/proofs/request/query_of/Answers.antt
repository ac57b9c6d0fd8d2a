use Rattle.std.proofs.Common.{rules}
use Rattle.requests.proofs.request.query_of.Goals as goal

pub returns-in-Stock-clause-ok : goal.returns-in-Stock-clause-ok
returns-in-Stock-clause-ok c = search rules
