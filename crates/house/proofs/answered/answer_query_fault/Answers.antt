use Rattle.std.proofs.Common.{rules}
use Rattle.house.proofs.answered.answer_query_fault.Goals as goal

pub returns-in-Refused : goal.returns-in-Refused
returns-in-Refused c = search rules

pub returns-in-Store : goal.returns-in-Store
returns-in-Store c = search rules

pub returns-in-Foreign : goal.returns-in-Foreign
returns-in-Foreign c = search rules
