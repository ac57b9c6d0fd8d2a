use Rattle.std.proofs.Common.{refl}
use Rattle.commands.proofs.refusal.Refusal.code.Goals as goal

pub returns-in-OverReserved-clause-code : goal.returns-in-OverReserved-clause-code
returns-in-OverReserved-clause-code c = rw c.in-OverReserved.is refl

pub returns-in-OverStaged-clause-code : goal.returns-in-OverStaged-clause-code
returns-in-OverStaged-clause-code c = rw c.in-OverStaged.is refl
