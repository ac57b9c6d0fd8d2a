use Rattle.rules.proofs.Words.{◌∙◌, item_replanned, made_same, returning_replanned}
use Rattle.rules.proofs.returning.returning_replanned.Goals as goal

pub returns : goal.returns
returns c =
    let a = c.args in
    let s = a.slice.now in
    let rows = c.item_rows-before.ensures in
    let staged = c.as_slice.ensures.value ∙ c.in_ok-staged.ensures in
    let bins = c.as_slice-2.ensures.value ∙ c.in_ok-bins.ensures in
    let stock = c.as_slice-3.ensures.value ∙ c.in_ok-stock.ensures in
    made_same c.replan_item.result _ (returning_replanned s a.lot.now a.lots.now a.recalls.now) c.replan_item.ensures
    (λ i. item_replanned s s.meta.day (rows.orders i) (rows.lines i) (staged i) a.lots.now a.recalls.now (bins i) (stock i) (rows.least i) (rows.urgents i) a.lot.now.gtin)
