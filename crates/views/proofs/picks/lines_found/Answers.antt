use Rattle.views.proofs.Words.{arith, ap, ◌∙◌, ◌++◌, [], Option, cons_option, LineRow, pick_line_found}
use Rattle.overviews.specs.declared.picks.PickLine.{PickLine}
use Rattle.views.proofs.ExpiringShown.{found_none, found_more, found_all}
use Rattle.views.proofs.picks.lines_found.Goals as goal

pub loop-row-init : goal.loop-row-init
loop-row-init c = let a = c.args in found_none (pick_line_found a.found.now a.items.now a.order.now) a.rows.now _ c.new-lines.ensures.items

pub loop-row-preserved : goal.loop-row-preserved
loop-row-preserved c =
    let a = c.args in
    let l = c.loop-row in
    let f : LineRow → Option PickLine = pick_line_found a.found.now a.items.now a.order.now in
    found_more f a.rows.now l.row-index l.lines.items c.row-item.result c.add_line.new.lines.items c.loop-row-test.true l.invariant
    (c.in_ok-add_line.ensures ∙ ap (λ (r : LineRow). l.lines.items ++ cons_option (f r) []) c.row-item.is)

pub returns : goal.returns
returns c =
    let a = c.args in
    let l = c.loop-row in
    found_all (pick_line_found a.found.now a.items.now a.order.now) a.rows.now l.row-index l.lines.items (omega arith) l.invariant
