use Rattle.store.proofs.Words.{ap, sym, fault_of_rule}
use Rattle.store.proofs.fault.FaultFromRuleFault.from.Goals as goal

pub returns-in-Refused : goal.returns-in-Refused
returns-in-Refused c = sym (ap fault_of_rule c.in-Refused.is)

pub returns-in-NoMemory : goal.returns-in-NoMemory
returns-in-NoMemory c = sym (ap fault_of_rule c.in-NoMemory.is)

pub returns-in-Foreign : goal.returns-in-Foreign
returns-in-Foreign c = sym (ap fault_of_rule c.in-Foreign.is)
