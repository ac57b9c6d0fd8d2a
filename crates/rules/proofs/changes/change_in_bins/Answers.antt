use Rattle.rules.proofs.Words.{made_same, changes_by, bins_changes}
use Rattle.rules.proofs.changes.change_in_bins.Goals as goal

pub returns : goal.returns
returns c =
    let s = c.args.slice.now in
    let stock = c.args.stock.now in
    made_same c.changes_by.result _ (bins_changes s c.args.gtin.now c.args.posting.now c.args.lots.now stock c.args.facts) c.changes_by.ensures
    (λ i. changes_by s c.args.posting.now stock (c.as_slice-staged.ensures i) (c.in_ok-reserved.ensures i) c.args.facts)
