use Rattle.texts.proofs.Words.{flat_map, take, Appends, shipment_line}
use Rattle.texts.proofs.notice.put_shipments.Given as goal

abbrev pub invariant-loop-units : goal.invariant-loop-units
invariant-loop-units g l = Appends (g.W.Write.contents l.initial.out) (g.W.Write.contents l.out) (flat_map shipment_line (take l.units-index l.shipments))
