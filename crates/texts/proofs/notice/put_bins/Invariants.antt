use Rattle.texts.proofs.Words.{flat_map, take, Appends, bin_line}
use Rattle.texts.proofs.notice.put_bins.Given as goal

abbrev pub invariant-loop-units : goal.invariant-loop-units
invariant-loop-units g l = Appends (g.W.Write.contents l.initial.out) (g.W.Write.contents l.out) (flat_map bin_line (take l.units-index l.bins))
