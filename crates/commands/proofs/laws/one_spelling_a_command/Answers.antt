use Rattle.commands.proofs.OneSpelling.{one_spelling}
use Rattle.commands.proofs.laws.one_spelling_a_command.Goals as goal

pub returns : goal.returns
returns c = one_spelling
