use Rattle.acts_files.proofs.TextParts.{goes_on}
use Rattle.acts_files.proofs.laws.text_goes_on.Goals as goal

pub returns : goal.returns
returns c = goes_on
