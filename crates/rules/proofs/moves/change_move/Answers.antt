use Rattle.rules.proofs.Words.{◌∙◌, made_same, stock_after, bins_changes, move_changes}
use Rattle.rules.proofs.moves.change_move.Goals as goal

pub returns : goal.returns
returns c =
    let s = c.args.slice.now in
    let m = c.args.m.now in
    let told = c.move_posted-posting.ensures in
    let stock = c.as_slice-in_bins.ensures.value ∙ c.in_ok-stock.ensures ∙ (λ i. stock_after s (told i)) in
    made_same c.change_in_bins.result _ (move_changes s m) c.change_in_bins.ensures
    (λ i. bins_changes s m.lot.gtin (told i) (c.as_slice-lots.ensures i) (stock i) (c.no_facts-facts.ensures i))
