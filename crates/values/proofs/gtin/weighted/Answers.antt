use Rattle.std.proofs.Common.{rules}
use Rattle.values.proofs.gtin.weighted.Goals as goal

pub loop-c-init : goal.loop-c-init
loop-c-init c = search rules
