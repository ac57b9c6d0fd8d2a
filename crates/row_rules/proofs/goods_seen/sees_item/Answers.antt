use Rattle.row_rules.proofs.Words.{List, ap, ◌∙◌, find, is_some, same_text, ItemRow}
use Rattle.row_rules.proofs.goods_seen.sees_item.Goals as goal

pub returns : goal.returns
returns c =
    let g = c.args.gtin.now in
    c.is_some.ensures ∙ ap is_some (c.find_row.ensures ∙ ap (λ (rows : List ItemRow). find (λ r. same_text g r.gtin) rows) c.as_slice.ensures)
