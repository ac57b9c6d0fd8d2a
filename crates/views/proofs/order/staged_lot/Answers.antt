use Rattle.views.proofs.Words.{◌∙◌, ◌&&◌, Bool, ap, same_text, StagedRow, is_lot, of_item, and_both, staged_qty, find_given}
use Rattle.views.proofs.order.staged_lot.Goals as goal

pub returns : goal.returns
returns c =
    let a = c.args in
    let o = a.order.now in
    let l = a.lot.now.lot in
    let own : StagedRow → Bool = λ r. same_text o r.order && is_lot l r.lot in
    let found =
    find_given own (λ r. of_item l.gtin r.lot) (λ r e. (and_both (same_text l.gtin r.lot.gtin) (same_text l.lot r.lot.lot) (and_both (same_text o r.order) (is_lot l r.lot) e).1).0) c.candidates.result.now a.rows.now c.candidates.ensures in
    let qty = c.staged_units.ensures ∙ ap staged_qty found in
    (λ i. record { lot = l.lot; qty = qty i })
