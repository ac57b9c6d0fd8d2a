use Rattle.row_rules.proofs.Words.{sym, ap, ◌∙◌, false, ◌≡◌, list_any, OrderRow, is_open_state, item_demands, item_supplies, earliest_seen}
use Rattle.row_rules.proofs.NoneOpen.{none_demanded, nothing_replanned}
use Rattle.row_rules.proofs.replanning.replan_supplies.Goals as goal

pub returns : goal.returns
returns c =
    let g = c.args.gtin.now in
    let s = c.args.slice.now in
    let o = s.rows in
    let k = c.args.rows.now in
    let none : list_any (λ (x : OrderRow). is_open_state x.state) o.orders ≡ false = ap (list_any (λ (x : OrderRow). is_open_state x.state)) (sym c.as_slice.ensures) ∙ sym c.any_open.ensures ∙ c.if-any_open.false in
    let needs = none_demanded g o.lines o.staged o.urgents o.orders none in
    c.none_replanned.ensures
    ∙ sym (nothing_replanned g o.orders o.lots (item_demands g o.lines o.staged o.urgents o.orders) (item_supplies g (earliest_seen s.meta.day o.least g) o.recalls o.bins o.stock o.lots)
    o.orders k.lots.now (item_demands g o.lines o.staged o.urgents o.orders) (item_supplies g (earliest_seen s.meta.day k.least.now g) k.recalls.now k.bins.now k.stock.now k.lots.now)
    needs needs)
