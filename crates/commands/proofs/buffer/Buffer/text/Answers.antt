use Rattle.std.proofs.Common.{rules}
use Rattle.commands.proofs.buffer.Buffer.text.Goals as goal

pub returns-clause-text : goal.returns-clause-text
returns-clause-text g c = search rules
