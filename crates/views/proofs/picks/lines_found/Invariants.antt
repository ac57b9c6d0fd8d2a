use Rattle.views.specs.GivenPicks.{pick_line_found}
use Rattle.views.proofs.ExpiringShown.{AreAllFound}
use Rattle.views.proofs.picks.lines_found.Given as goal

abbrev pub invariant-loop-row : goal.invariant-loop-row
invariant-loop-row l = AreAllFound (pick_line_found l.found l.items l.order) l.rows l.row-index l.lines.items
