use Rattle.row_rules.proofs.Words.{◌∙◌, plan_rows, cut_is, first_as_one}
use Rattle.row_rules.proofs.BehindCut.{one_small, one_stays}
use Rattle.row_rules.proofs.replanning.plans_behind_cut.Goals as goal

pub whole-requires : goal.whole-requires
whole-requires c =
    let m = c.args.before.now in
    one_small c.cut-kept.result m.demands.now m.supplies.now c.as_slice.result.now (c.as_slice.ensures.value ∙ c.in_ok-old_demands.ensures) c.requires.before

pub replan-requires : goal.replan-requires
replan-requires c =
    let n = c.args.after.now in
    one_small c.cut-kept.result n.demands.now n.supplies.now c.as_slice-2.result.now (c.as_slice-2.ensures.value ∙ c.in_ok-demands.ensures) c.requires.after

pub returns-clause-before : goal.returns-clause-before
returns-clause-before c =
    let m = c.args.before.now in
    let n = c.args.after.now in
    let kept = cut_is m.demands.now m.supplies.now n.demands.now n.supplies.now c.cut-kept.result c.cut-kept.ensures in
    let demands = c.as_slice.ensures.value ∙ c.in_ok-old_demands.ensures ∙ (λ i. first_as_one (kept i) m.demands.now) in
    c.in_ok-before.ensures ∙ c.rows.ensures.rows ∙ c.in_ok-plan.ensures.rows ∙ (λ i. plan_rows (demands i) m.supplies.now)

pub returns-clause-after : goal.returns-clause-after
returns-clause-after c =
    let m = c.args.before.now in
    let n = c.args.after.now in
    let kept = cut_is m.demands.now m.supplies.now n.demands.now n.supplies.now c.cut-kept.result c.cut-kept.ensures in
    let demands = c.as_slice-2.ensures.value ∙ c.in_ok-demands.ensures in
    let front = one_stays c.cut-kept.result m.demands.now m.supplies.now n.demands.now n.supplies.now
    c.as_slice.result.now c.as_slice-2.result.now c.in_ok-plan.plan c.cut-kept.ensures (c.as_slice.ensures.value ∙ c.in_ok-old_demands.ensures) demands c.in_ok-plan.ensures.rows in
    c.in_ok-after.ensures ∙ c.rows-2.ensures.rows ∙ c.in_ok-replan.ensures.planned front ∙ (λ i. plan_rows ((demands ∙ (λ j. first_as_one (kept j) n.demands.now)) i) n.supplies.now)
