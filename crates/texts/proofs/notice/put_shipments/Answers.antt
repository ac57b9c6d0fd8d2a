use Rattle.texts.proofs.Words.{flat_map, arith, shipment_line}
use Rattle.texts.proofs.Beginnings.{cut_at}
use Rattle.texts.proofs.Looping.{step_written, step_cut}
use Rattle.texts.proofs.notice.put_shipments.Goals as goal

pub returns-in_err-put_shipment : goal.returns-in_err-put_shipment
returns-in_err-put_shipment g c =
    let at = g.W.Write.contents in
    let all = c.args.shipments.now in
    cut_at c.from_residual.result (at c.args.out.now) (at c.put_shipment.new.out) (flat_map shipment_line all) c.from_residual.ensures.0
    (step_cut shipment_line all c.loop-units.units-index c.units-item.result c.units-item.result (at c.args.out.now) (at c.loop-units.out) (at c.put_shipment.new.out) (omega arith) c.units-item.is c.loop-units.invariant c.in_err-put_shipment.ensures)

pub loop-units-preserved : goal.loop-units-preserved
loop-units-preserved g c =
    let at = g.W.Write.contents in
    step_written shipment_line c.args.shipments.now c.loop-units.units-index c.units-item.result c.units-item.result (at c.args.out.now) (at c.loop-units.out) (at c.put_shipment.new.out) (omega arith) c.units-item.is c.loop-units.invariant c.in_ok-put_shipment.ensures
