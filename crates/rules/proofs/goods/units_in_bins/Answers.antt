use Rattle.rules.proofs.goods.units_in_bins.Goals as goal

pub returns : goal.returns
returns c = c.units_with.ensures
