use Rattle.row_rules.proofs.Words.{List, ◌&&◌, ap, ◌∙◌, find, same_text, LineRow}
use Rattle.row_rules.proofs.orders_seen.line_row_seen.Goals as goal

pub returns : goal.returns
returns c =
    let o = c.args.order.now in
    let g = c.args.gtin.now in
    c.find_row.ensures ∙ ap (λ (rows : List LineRow). find (λ l. same_text o l.order && same_text g l.gtin) rows) c.as_slice.ensures
