use Rattle.rules.proofs.Words.{item_replanned, made_same, replanned_by}
use Rattle.rules.proofs.picking.replanned_on_stages.Goals as goal

pub returns : goal.returns
returns c =
    let s = c.args.slice.now in
    let rows = c.item_rows-all.ensures in
    made_same c.replan_item.result _ (replanned_by s c.args.gtin.now s.rows.lots c.args.stock.now c.args.staged.now) c.replan_item.ensures
    (λ i. item_replanned s s.meta.day (rows.orders i) (rows.lines i) c.args.staged.now (rows.lots i) (rows.recalls i) (rows.bins i) c.args.stock.now (rows.least i) (rows.urgents i) c.args.gtin.now)
