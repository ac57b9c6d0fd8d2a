use Rattle.rules.proofs.Words.{List, ap, ◌∙◌, find, same_text, BinRow}
use Rattle.rules.proofs.pick_seen.PickSeen.of.Goals as goal

pub returns : goal.returns
returns c =
    let p = c.args.p.now in
    let bin = c.find_row.ensures ∙ ap (λ (rows : List BinRow). find (λ r. same_text p.bin r.name) rows) c.as_slice.ensures in
    λ i. record {
      item = c.sees_item.ensures i;
      bin = bin i;
      lot = c.lot_seen.ensures i;
      order = c.order_row_seen.ensures i;
      line = c.sees_line.ensures i;
      units = c.of.ensures i;
    }
