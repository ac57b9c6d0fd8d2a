use Rattle.std.proofs.Common.{refl}
use Rattle.values.proofs.fault.LabelFault.code.Goals as goal

pub returns-in-CheckDigit : goal.returns-in-CheckDigit
returns-in-CheckDigit c = rw c.in-CheckDigit.is refl
