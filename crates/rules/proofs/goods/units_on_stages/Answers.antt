use Rattle.rules.proofs.goods.units_on_stages.Goals as goal

pub returns : goal.returns
returns c = c.units_with.ensures
