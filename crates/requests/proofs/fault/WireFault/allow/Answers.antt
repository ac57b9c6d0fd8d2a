use Rattle.std.proofs.Common.{rules}
use Rattle.requests.proofs.fault.WireFault.allow.Goals as goal

pub returns-in-Method : goal.returns-in-Method
returns-in-Method c = search rules
