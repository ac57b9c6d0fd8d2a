use Rattle.row_rules.proofs.Words.{arith, Row}
use Rattle.row_rules.proofs.RowsApart.{left_none, left_more, left_all}
use Rattle.row_rules.proofs.plan_difference.rows_not_met.Goals as goal

pub loop-row-init : goal.loop-row-init
loop-row-init c = left_none c.args.others.now c.args.rows.now _ c.new-left.ensures.items

pub loop-row-preserved : goal.loop-row-preserved
loop-row-preserved c =
    let a = c.args in
    let l = c.loop-row in
    let none : Row = record { booking = 0; lot = 0; qty = 0 } in
    left_more a.others.now a.rows.now l.row-index l.left.items none c.push_if.new.rows.items c.meets-met.result c.loop-row-test.true l.invariant c.meets-met.ensures c.in_ok-push_if.ensures

pub returns : goal.returns
returns c =
    let a = c.args in
    let l = c.loop-row in
    left_all a.others.now a.rows.now l.row-index l.left.items (omega arith) l.invariant
