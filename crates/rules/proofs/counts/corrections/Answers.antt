use Rattle.rules.proofs.Words.{◌∙◌, made_same, stock_after, bins_changes, corrections, correction_facts}
use Rattle.rules.proofs.counts.corrections.Goals as goal

pub returns : goal.returns
returns c =
    let s = c.args.slice.now in
    let made = c.args.made.now in
    let told = c.written_posted-posting.ensures in
    let stock = c.as_slice-in_bins.ensures.value ∙ c.in_ok-stock.ensures ∙ (λ i. stock_after s (told i)) in
    let facts = c.in_ok-facts.ensures ∙ (λ i. correction_facts s made.lot made.bin made.change (stock i)) in
    made_same c.change_in_bins.result _ (corrections s made.lot made.bin made.change) c.change_in_bins.ensures
    (λ i. bins_changes s made.lot.gtin (told i) (c.as_slice-lots.ensures i) (stock i) (facts i))
