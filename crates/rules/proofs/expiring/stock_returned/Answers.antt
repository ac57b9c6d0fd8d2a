use Rattle.rules.proofs.Words.{◌∙◌, flat_map, LotRow, gathered_kept, same_items, is_out, row_returned, returned_put}
use Rattle.rules.proofs.expiring.stock_returned.Goals as goal

pub returns : goal.returns
returns c =
    let a = c.args in
    let s = a.slice.now in
    let stock = c.in_ok-stock.ensures ∙ c.as_slice.ensures in
    let staged = c.in_ok-staged.ensures ∙ c.as_slice-2.ensures in
    let out = c.as_slice-3.ensures.value ∙ c.in_ok-out.ensures in
    same_items c.rows_returned.result _ _ c.rows_returned.ensures
    ((λ i. flat_map (λ (k : LotRow). row_returned (stock i) (staged i) k.lot) (out i))
    ∙ gathered_kept (λ k. returned_put s k.lot) (λ k. is_out s a.day a.least.now k.lot) s.rows.lots)
