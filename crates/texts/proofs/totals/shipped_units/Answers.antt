use Rattle.std.proofs.Common.{arith}
use Rattle.texts.proofs.Looping.{total_more}
use Rattle.texts.proofs.totals.shipped_units.Goals as goal

pub loop-shipment-preserved : goal.loop-shipment-preserved
loop-shipment-preserved c =
    omega (arith, total_more (λ x. x.qty) c.args.shipments.now c.loop-shipment.shipment-index c.shipment-item.result c.shipment-item.result (omega arith) c.shipment-item.is, c.in_ok-units.ensures)
