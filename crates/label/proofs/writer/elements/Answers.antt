use Rattle.std.proofs.Common.{rules}
use Rattle.label.proofs.writer.elements.Goals as goal

pub returns : goal.returns
returns c = search rules
