use Rattle.rules.proofs.Words.{◌∷◌, ap, ◌∙◌, flat_map, item_replanned, Replanned, part_same, items_ordered, urgent_put, urgent_dropped}
use Rattle.rules.proofs.urgent_orders.replan_with.Goals as goal

pub returns-clause-put : goal.returns-clause-put
returns-clause-put c =
    let s = c.args.slice.now in
    let o = c.args.o.now in
    let rows = c.item_rows.ensures in
    let items = c.as_slice-6.ensures.value ∙ c.in_ok-items.ensures ∙ ap items_ordered c.as_slice.ensures.value in
    let orders = c.as_slice-3.ensures.value ∙ c.in_ok-orders.ensures ∙ (λ i. c.new_order_row.ensures i ∷ c.as_slice-2.ensures i) in
    let lines = c.as_slice-4.ensures.value ∙ c.in_ok-lines.ensures in
    let urgents = c.as_slice-5.ensures.value ∙ c.in_ok-urgents.ensures in
    part_same c.replan_demands.result (λ (r : Replanned). r.put) _ (urgent_put s o) c.replan_demands.ensures.put
    (λ i. flat_map (λ g. (item_replanned s s.meta.day (orders i) (lines i) (rows.staged i) s.rows.lots s.rows.recalls s.rows.bins s.rows.stock s.rows.least (urgents i) g).put) (items i))

pub returns-clause-dropped : goal.returns-clause-dropped
returns-clause-dropped c =
    let s = c.args.slice.now in
    let o = c.args.o.now in
    let rows = c.item_rows.ensures in
    let items = c.as_slice-6.ensures.value ∙ c.in_ok-items.ensures ∙ ap items_ordered c.as_slice.ensures.value in
    let orders = c.as_slice-3.ensures.value ∙ c.in_ok-orders.ensures ∙ (λ i. c.new_order_row.ensures i ∷ c.as_slice-2.ensures i) in
    let lines = c.as_slice-4.ensures.value ∙ c.in_ok-lines.ensures in
    let urgents = c.as_slice-5.ensures.value ∙ c.in_ok-urgents.ensures in
    part_same c.replan_demands.result (λ (r : Replanned). r.dropped) _ (urgent_dropped s o) c.replan_demands.ensures.dropped
    (λ i. flat_map (λ g. (item_replanned s s.meta.day (orders i) (lines i) (rows.staged i) s.rows.lots s.rows.recalls s.rows.bins s.rows.stock s.rows.least (urgents i) g).dropped) (items i))
