use Rattle.row_rules.proofs.Words.{sym, ap, ◌∙◌, false, ◌≡◌, list_any, OrderRow, is_open_state, item_demands, item_supplies, earliest_seen}
use Rattle.row_rules.proofs.NoneOpen.{none_demanded, nothing_replanned}
use Rattle.row_rules.proofs.replanning.replan_item.Goals as goal

pub returns : goal.returns
returns c =
    let g = c.args.gtin.now in
    let day = c.args.day in
    let s = c.args.slice.now in
    let o = s.rows in
    let d = c.args.rows.now.demands in
    let k = c.args.rows.now.supplies in
    let was : list_any (λ (x : OrderRow). is_open_state x.state) o.orders ≡ false = ap (list_any (λ (x : OrderRow). is_open_state x.state)) (sym c.as_slice.ensures) ∙ sym c.any_open-was_open.ensures ∙ c.if-was_open.false in
    let will = sym c.any_open-will_be_open.ensures ∙ c.if-will_be_open.false in
    c.none_replanned.ensures
    ∙ sym (nothing_replanned g o.orders o.lots (item_demands g o.lines o.staged o.urgents o.orders) (item_supplies g (earliest_seen s.meta.day o.least g) o.recalls o.bins o.stock o.lots)
    d.orders.now k.lots.now (item_demands g d.lines.now d.staged.now d.urgents.now d.orders.now) (item_supplies g (earliest_seen day k.least.now g) k.recalls.now k.bins.now k.stock.now k.lots.now)
    (none_demanded g o.lines o.staged o.urgents o.orders was) (none_demanded g d.lines.now d.staged.now d.urgents.now d.orders.now will))
