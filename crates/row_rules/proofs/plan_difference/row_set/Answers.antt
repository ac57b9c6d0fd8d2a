use Rattle.row_rules.proofs.Words.{List, ap, list_any, is_at, Row, RowKey, row_key, row_cmp}
use Rattle.row_rules.proofs.RowsApart.{set_more}
use Rattle.row_rules.proofs.plan_difference.row_set.Goals as goal

pub loop-row-init : goal.loop-row-init
loop-row-init c r = ap (λ (keys : List RowKey). list_any (is_at (row_cmp (row_key r))) keys) c.new-set.ensures.empty

pub loop-row-preserved : goal.loop-row-preserved
loop-row-preserved c =
    let l = c.loop-row in
    let none : Row = record { booking = 0; lot = 0; qty = 0 } in
    set_more c.args.rows.now l.row-index none l.set c.insert_row.new.set c.loop-row-test.true l.invariant c.in_ok-insert_row.ensures
