use Rattle.rules.proofs.Words.{◌∙◌, None, made_same, bins_changes, release_changes}
use Rattle.rules.proofs.holding.change_release.Goals as goal

pub returns : goal.returns
returns c =
    let s = c.args.slice.now in
    let l = c.args.lot.now in
    made_same c.change_in_bins.result _ (release_changes s l) c.change_in_bins.ensures
    (λ i. bins_changes s l.gtin None ((c.as_slice-known.ensures.value ∙ c.in_ok-lots.ensures) i) (c.as_slice-stock.ensures i) (c.in_ok-facts.ensures i))
