use Rattle.rules.proofs.Words.{◌-◌, ◌&&◌, ◌∙◌, [], ◌==◌, if◌then◌else◌, find, cons_option, same_text, is_lot, reserved_qty, reserved_put, made_same, stock_after, staged_after, changes_by, pick_changes}
use Rattle.rules.proofs.picking.change_pick.Goals as goal

pub returns : goal.returns
returns c =
    let s = c.args.slice.now in
    let p = c.args.p.now in
    let told = c.pick_posted-posting.ensures in
    let stock = c.as_slice-in_bins.ensures.value ∙ c.in_ok-stock.ensures ∙ (λ i. stock_after s (told i)) in
    let staged = c.as_slice-on_stages.ensures.value ∙ c.in_ok-staged.ensures ∙ (λ i. staged_after s (told i)) in
    let own = c.find_row-own.ensures ∙ (λ i. find (λ r. same_text p.order r.order && is_lot p.lot r.lot) (c.as_slice.ensures i)) in
    let put = c.in_ok-reserved.ensures.put ∙ (λ i. reserved_put p.order p.lot (reserved_qty (own i) - p.qty)) in
    let gone = c.in_ok-reserved.ensures.dropped ∙ (λ i. if (reserved_qty (own i) - p.qty) == 0 then cons_option (own i) [] else []) in
    made_same c.changes_by.result _ (pick_changes s p) c.changes_by.ensures
    (λ i. changes_by s (told i) (stock i) (staged i) (record { put = put i; dropped = gone i }) (c.no_facts-facts.ensures i))
