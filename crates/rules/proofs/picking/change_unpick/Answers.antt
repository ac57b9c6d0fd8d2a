use Rattle.rules.proofs.Words.{◌∙◌, made_same, stock_after, staged_after, replanned_by, changes_by, unpick_changes}
use Rattle.rules.proofs.picking.change_unpick.Goals as goal

pub returns : goal.returns
returns c =
    let s = c.args.slice.now in
    let p = c.args.p.now in
    let told = c.unpick_posted-posting.ensures in
    let stock = c.as_slice-in_bins.ensures.value ∙ c.in_ok-stock.ensures ∙ (λ i. stock_after s (told i)) in
    let staged = c.as_slice-on_stages.ensures.value ∙ c.in_ok-staged.ensures ∙ (λ i. staged_after s (told i)) in
    let reserved = c.in_ok-reserved.ensures ∙ (λ i. replanned_by s p.lot.gtin s.rows.lots (stock i) (staged i)) in
    made_same c.changes_by.result _ (unpick_changes s p) c.changes_by.ensures
    (λ i. changes_by s (told i) (stock i) (staged i) (reserved i) (c.no_facts-facts.ensures i))
