use Rattle.std.proofs.Common.{rules}
use Rattle.rules.proofs.counts.correction_cards.Goals as goal

pub returns : goal.returns
returns c = search rules
