use Rattle.std.proofs.Common.{rules}
use Rattle.commands.proofs.spelling.change_text.Goals as goal

pub returns : goal.returns
returns c = search rules
