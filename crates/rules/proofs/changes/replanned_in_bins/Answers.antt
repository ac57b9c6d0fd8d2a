use Rattle.rules.proofs.Words.{item_replanned, made_same, replanned_by}
use Rattle.rules.proofs.changes.replanned_in_bins.Goals as goal

pub returns : goal.returns
returns c =
    let s = c.args.slice.now in
    let rows = c.item_rows.ensures in
    made_same c.replan_supplies.result _ (replanned_by s c.args.gtin.now c.args.lots.now c.args.stock.now s.rows.staged) c.replan_supplies.ensures
    (λ i. item_replanned s s.meta.day s.rows.orders s.rows.lines s.rows.staged c.args.lots.now (rows.recalls i) (rows.bins i) c.args.stock.now (rows.least i) s.rows.urgents c.args.gtin.now)
