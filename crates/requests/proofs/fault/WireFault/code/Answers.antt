use Rattle.std.proofs.Common.{rules}
use Rattle.requests.proofs.fault.WireFault.code.Goals as goal

pub returns-in-Length-clause-code : goal.returns-in-Length-clause-code
returns-in-Length-clause-code c = search rules
