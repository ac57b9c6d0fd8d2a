use Rattle.row_rules.proofs.Words.{List, ap, ◌∙◌, find, is_some, LotRow, is_lot}
use Rattle.row_rules.proofs.stock.sees_lot.Goals as goal

pub returns : goal.returns
returns c =
    let l = c.args.lot.now in
    c.is_some.ensures ∙ ap is_some (c.find_row.ensures ∙ ap (λ (rows : List LotRow). find (λ k. is_lot l k.lot) rows) c.as_slice.ensures)
