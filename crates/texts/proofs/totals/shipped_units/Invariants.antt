use Rattle.texts.proofs.Words.{◌≡◌, take, total}
use Rattle.texts.proofs.totals.shipped_units.Given as goal

abbrev pub invariant-loop-shipment : goal.invariant-loop-shipment
invariant-loop-shipment l = l.units ≡ total (λ s. s.qty) (take l.shipment-index l.shipments)
