use Rattle.rules.proofs.Words.{◌∙◌, made_same, stock_after, bins_changes, receive_facts, receive_changes}
use Rattle.rules.proofs.goods.change_receive.Goals as goal

pub returns : goal.returns
returns c =
    let s = c.args.slice.now in
    let key = c.args.key.now in
    let r = c.args.r.now in
    let told = c.receive_posted-posting.ensures in
    let stock = c.as_slice-in_bins.ensures.value ∙ c.in_ok-stock.ensures ∙ (λ i. stock_after s (told i)) in
    let lots = c.as_slice-known.ensures.value ∙ c.in_ok-lots.ensures in
    let facts = c.in_ok-facts.ensures ∙ (λ i. receive_facts s key r (stock i)) in
    made_same c.change_in_bins.result _ (receive_changes s key r) c.change_in_bins.ensures
    (λ i. bins_changes s r.lot.gtin (told i) (lots i) (stock i) (facts i))
