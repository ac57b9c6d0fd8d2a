use Rattle.std.proofs.Common.{arith}
use Rattle.commands.proofs.Appending.{appended}
use Rattle.commands.proofs.spelling.add_field.Goals as goal

pub returns : goal.returns
returns c = grind (arith, appended)
