use Rattle.views.proofs.Words.{same_items, all_found, pick_line_found}
use Rattle.views.proofs.picks.pick_lines.Goals as goal

pub returns : goal.returns
returns c =
    let a = c.args in
    same_items c.lines_found.result _ _ c.lines_found.ensures (λ i. all_found (pick_line_found (c.in_ok-found.ensures i) (c.in_ok-items.ensures i) a.order.now) a.lines.now)
