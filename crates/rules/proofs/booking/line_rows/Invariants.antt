use Rattle.rules.proofs.Words.{OrderLine, LineRow, IsMapped}
use Rattle.rules.proofs.booking.line_rows.Given as goal

abbrev pub invariant-loop-line : goal.invariant-loop-line
invariant-loop-line l = IsMapped {X = OrderLine} {Y = LineRow} (λ m. record { order = l.order; gtin = m.gtin; ordered = m.qty; shipped = 0 }) l.lines l.line-index l.rows.items
