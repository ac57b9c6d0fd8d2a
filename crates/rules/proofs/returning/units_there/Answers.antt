use Rattle.rules.proofs.Words.{ap, ◌∙◌, stock_qty}
use Rattle.rules.proofs.returning.units_there.Goals as goal

pub returns : goal.returns
returns c = c.units_of.ensures ∙ ap stock_qty c.find.ensures
