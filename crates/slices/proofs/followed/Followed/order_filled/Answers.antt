use Rattle.slices.proofs.Words.{List, map, sym, subst, IfSome, LineRow, filled_line, AreLinesOfOrder, FillsLines}
use Rattle.slices.proofs.LinesFilled.{fills_lines}
use Rattle.slices.proofs.followed.Followed.order_filled.Goals as goal

pub returns : goal.returns
returns c = λ t knows.
    let name = c.in-Some.first.now.order in
    let lines = c.in-Some-rows_of.lines.now in
    subst (λ (rows : List LineRow). FillsLines name rows t) (sym (c.are_filled.ensures c.if-not-are_filled.false))
    (fills_lines name t lines (subst (λ x. IfSome x (λ found. AreLinesOfOrder name t found)) (sym c.in-Some-rows_of.ensures) (knows name)))
