use Rattle.slices.proofs.Words.{◌≡◌, map, take, filled_line}
use Rattle.slices.proofs.order_filled.are_filled.Given as goal

abbrev pub invariant-loop-at : goal.invariant-loop-at
invariant-loop-at l = take l.at l.put ≡ map filled_line (take l.at l.lines)
