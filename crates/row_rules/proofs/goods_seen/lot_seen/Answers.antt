use Rattle.row_rules.proofs.Words.{List, ap, ◌∙◌, find, LotRow, is_lot}
use Rattle.row_rules.proofs.goods_seen.lot_seen.Goals as goal

pub returns : goal.returns
returns c =
    let l = c.args.lot.now in
    c.find_row.ensures ∙ ap (λ (rows : List LotRow). find (λ k. is_lot l k.lot) rows) c.as_slice.ensures
