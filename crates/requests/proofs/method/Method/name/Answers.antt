use Rattle.std.proofs.Common.{rules}
use Rattle.requests.proofs.method.Method.name.Goals as goal

pub returns-in-Get-clause-name : goal.returns-in-Get-clause-name
returns-in-Get-clause-name c = search rules
