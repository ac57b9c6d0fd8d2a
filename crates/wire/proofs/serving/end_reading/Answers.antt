use Rattle.std.proofs.Common.{rules}
use Rattle.wire.proofs.serving.end_reading.Goals as goal

pub returns-in-NoRoom : goal.returns-in-NoRoom
returns-in-NoRoom c = search rules
