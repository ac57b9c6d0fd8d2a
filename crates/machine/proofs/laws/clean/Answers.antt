use Rattle.machine.proofs.histories.StagedLots as lots
use Rattle.machine.proofs.laws.clean.Goals as goal

pub returns : goal.returns
returns c = record { staged = lots.staged_lots_are_shippable; shipped = lots.shipped_lots_are_shippable }
