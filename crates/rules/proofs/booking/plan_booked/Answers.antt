use Rattle.rules.proofs.Words.{[], ◌∷◌, ap, ◌∙◌, IfOk-weaker, SUM_MAX, plan_rows, earliest_seen, demands_within, plan_within, supplies_seen, supplies_within, supplies_cut_twice, demand_before, demand_booked}
use Rattle.rules.proofs.booking.plan_booked.Goals as goal

pub returns : goal.returns
returns c =
    let s = c.args.slice.now in
    let l = c.args.line.now in
    let of = c.requires in
    let before = c.demand_before-before.ensures in
    let last = c.demand_booked.ensures in
    let offered = c.as_slice.ensures.value ∙ c.in_ok-supplies.ensures.told in
    IfOk-weaker c.plan_with_last.result _ _
    (λ plan e. e ∙ (λ i. plan_within (before i ∷ last i ∷ []) (offered i)) ∙ (λ i. plan_within (demand_before s l.gtin ∷ demand_booked s l ∷ []) (supplies_within SUM_MAX (supplies_seen l.gtin (earliest_seen (of.day i) (of.least i) l.gtin) (of.recalls i) (of.bins i) (of.stock i) (of.lots i))))
    ∙ ap (plan_rows (demands_within SUM_MAX (demand_before s l.gtin ∷ demand_booked s l ∷ []))) (supplies_cut_twice (supplies_seen l.gtin (earliest_seen s.meta.day s.rows.least l.gtin) s.rows.recalls s.rows.bins s.rows.stock s.rows.lots)))
    c.plan_with_last.ensures
