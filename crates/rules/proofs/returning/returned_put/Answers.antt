use Rattle.rules.proofs.Words.{◌∙◌, same_items, row_returned}
use Rattle.rules.proofs.returning.returned_put.Goals as goal

pub returns : goal.returns
returns c =
    let stock = c.in_ok-stock.ensures ∙ c.as_slice.ensures in
    let staged = c.in_ok-staged.ensures ∙ c.as_slice-2.ensures in
    same_items c.row_returned.result _ _ c.row_returned.ensures (λ i. row_returned (stock i) (staged i) c.args.lot.now)
