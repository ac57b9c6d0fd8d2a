use Rattle.requests.proofs.Words.{◌≡◌, drop, items_view, lines_of}
use Rattle.requests.proofs.Lines.{with_found}
use Rattle.requests.proofs.bodies.lines_of.Given as goal

abbrev pub invariant-loop-item : goal.invariant-loop-item
invariant-loop-item l = lines_of (items_view l.fn.items) ≡ with_found l.found.items (lines_of (items_view (drop l.item-index l.items)))
