use Rattle.rules.proofs.Words.{◌∙◌, flat_map, item_replanned, Replanned, part_same, reserved_put_on, reserved_gone_on}
use Rattle.rules.proofs.expiring.replan_on.Goals as goal

pub returns-clause-put : goal.returns-clause-put
returns-clause-put c =
    let s = c.args.slice.now in
    let day = c.args.day in
    let least = c.args.least.now in
    let rows = c.item_rows-before.ensures in
    let staged = c.as_slice.ensures.value ∙ c.in_ok-staged.ensures in
    let bins = c.as_slice-2.ensures.value ∙ c.in_ok-bins.ensures in
    let stock = c.as_slice-3.ensures.value ∙ c.in_ok-stock.ensures in
    let gtins = c.as_slice-4.ensures.value ∙ c.in_ok-gtins.ensures in
    part_same c.replan_items.result (λ (r : Replanned). r.put) _ (reserved_put_on s day least) c.replan_items.ensures.put
    (λ i. flat_map (λ g. (item_replanned s day (rows.orders i) (rows.lines i) (staged i) (rows.lots i) (rows.recalls i) (bins i) (stock i) least (rows.urgents i) g).put) (gtins i))

pub returns-clause-dropped : goal.returns-clause-dropped
returns-clause-dropped c =
    let s = c.args.slice.now in
    let day = c.args.day in
    let least = c.args.least.now in
    let rows = c.item_rows-before.ensures in
    let staged = c.as_slice.ensures.value ∙ c.in_ok-staged.ensures in
    let bins = c.as_slice-2.ensures.value ∙ c.in_ok-bins.ensures in
    let stock = c.as_slice-3.ensures.value ∙ c.in_ok-stock.ensures in
    let gtins = c.as_slice-4.ensures.value ∙ c.in_ok-gtins.ensures in
    part_same c.replan_items.result (λ (r : Replanned). r.dropped) _ (reserved_gone_on s day least) c.replan_items.ensures.dropped
    (λ i. flat_map (λ g. (item_replanned s day (rows.orders i) (rows.lines i) (staged i) (rows.lots i) (rows.recalls i) (bins i) (stock i) least (rows.urgents i) g).dropped) (gtins i))
