use Rattle.commands.proofs.OneText.{one_text}
use Rattle.commands.proofs.laws.one_text_a_key.Goals as goal

pub returns : goal.returns
returns c = one_text
