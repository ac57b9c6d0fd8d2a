use Rattle.rules.proofs.Words.{line_put, line_short, IsBooked}
use Rattle.rules.proofs.booking.book_each.Given as goal

abbrev pub invariant-loop-line : goal.invariant-loop-line
invariant-loop-line l = IsBooked (line_put l.slice l.order) (line_short l.slice) l.lines l.line-index l.put.items l.short
