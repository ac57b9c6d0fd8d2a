use Rattle.views.specs.GivenBin.{bin_lot_found}
use Rattle.views.proofs.ExpiringShown.{AreAllFound}
use Rattle.views.proofs.bin_lots.lots_found.Given as goal

abbrev pub invariant-loop-row : goal.invariant-loop-row
invariant-loop-row l = AreAllFound (bin_lot_found l.day l.bin l.rows l.stock l.recalls) l.page l.row-index l.lots.items
