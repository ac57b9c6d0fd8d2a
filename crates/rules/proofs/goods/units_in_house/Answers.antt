use Rattle.std.proofs.Common.{rules}
use Rattle.rules.proofs.goods.units_in_house.Goals as goal

pub returns : goal.returns
returns c = search rules
