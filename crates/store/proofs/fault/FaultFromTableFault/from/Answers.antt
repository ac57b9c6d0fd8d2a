use Rattle.store.proofs.Words.{ap, sym, fault_of}
use Rattle.store.proofs.fault.FaultFromTableFault.from.Goals as goal

pub returns-in-Store : goal.returns-in-Store
returns-in-Store c = sym (ap fault_of c.in-Store.is)

pub returns-in-Foreign : goal.returns-in-Foreign
returns-in-Foreign c = sym (ap fault_of c.in-Foreign.is)
