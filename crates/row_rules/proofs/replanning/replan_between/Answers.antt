use Rattle.row_rules.proofs.Words.{◌∙◌, IfOk-weaker, replanned_from}
use Rattle.row_rules.proofs.BehindCut.{small_lists}
use Rattle.row_rules.proofs.replanning.replan_between.Goals as goal

pub replan_told-requires-clause-before : goal.replan_told-requires-clause-before
replan_told-requires-clause-before c = small_lists _ _ _ _ c.as_slice.ensures.value c.as_slice-2.ensures.value c.in_ok-wanted.ensures.small c.in_ok-offered.ensures.small

pub replan_told-requires-clause-after : goal.replan_told-requires-clause-after
replan_told-requires-clause-after c = small_lists _ _ _ _ c.as_slice-3.ensures.value c.as_slice-4.ensures.value c.in_ok-wants.ensures.small c.in_ok-offers.ensures.small

pub returns : goal.returns
returns c =
    let g = c.args.gtin.now in
    let m = c.args.before.now in
    let n = c.args.after.now in
    let wanted = c.as_slice.ensures.value ∙ c.in_ok-wanted.ensures.told in
    let offered = c.as_slice-2.ensures.value ∙ c.in_ok-offered.ensures.told in
    let wants = c.as_slice-3.ensures.value ∙ c.in_ok-wants.ensures.told in
    let offers = c.as_slice-4.ensures.value ∙ c.in_ok-offers.ensures.told in
    IfOk-weaker c.replan_told.result _ _
    (λ r e. e ∙ (λ i. replanned_from g m.demands.now.orders.now (c.all.ensures i) (wanted i) (offered i) n.demands.now.orders.now (c.all-2.ensures i) (wants i) (offers i))) c.replan_told.ensures
