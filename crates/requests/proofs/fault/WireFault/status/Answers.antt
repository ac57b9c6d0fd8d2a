use Rattle.std.proofs.Common.{rules}
use Rattle.requests.proofs.fault.WireFault.status.Goals as goal

pub returns-in-Path : goal.returns-in-Path
returns-in-Path c = search rules
