use Rattle.rules.proofs.Words.{List, ap, ◌∙◌, not, filter, flat_map, same_text, OrderRow, item_replanned, Replanned, part_same, cancel_put, cancel_dropped}
use Rattle.rules.proofs.cancelling.replan_without.Goals as goal

pub returns-clause-put : goal.returns-clause-put
returns-clause-put c =
    let s = c.args.slice.now in
    let o = c.args.order.now in
    let rows = c.item_rows.ensures in
    let orders = c.as_slice-2.ensures.value ∙ c.in_ok-others.ensures ∙ ap (λ (olds : List OrderRow). filter (λ r. not (same_text o r.order)) olds) c.as_slice.ensures in
    let items = c.as_slice-3.ensures.value ∙ c.in_ok-items.ensures in
    part_same c.replan_demands.result (λ (r : Replanned). r.put) _ (cancel_put s o) c.replan_demands.ensures.put
    (λ i. flat_map (λ g. (item_replanned s s.meta.day (orders i) (rows.lines i) (rows.staged i) s.rows.lots s.rows.recalls s.rows.bins s.rows.stock s.rows.least (rows.urgents i) g).put) (items i))

pub returns-clause-dropped : goal.returns-clause-dropped
returns-clause-dropped c =
    let s = c.args.slice.now in
    let o = c.args.order.now in
    let rows = c.item_rows.ensures in
    let orders = c.as_slice-2.ensures.value ∙ c.in_ok-others.ensures ∙ ap (λ (olds : List OrderRow). filter (λ r. not (same_text o r.order)) olds) c.as_slice.ensures in
    let items = c.as_slice-3.ensures.value ∙ c.in_ok-items.ensures in
    part_same c.replan_demands.result (λ (r : Replanned). r.dropped) _ (cancel_dropped s o) c.replan_demands.ensures.dropped
    (λ i. flat_map (λ g. (item_replanned s s.meta.day (orders i) (rows.lines i) (rows.staged i) s.rows.lots s.rows.recalls s.rows.bins s.rows.stock s.rows.least (rows.urgents i) g).dropped) (items i))
