use Rattle.rules.proofs.Words.{◌≡◌, true, [], ◌∷◌, ap, sym, ◌∙◌, LeastRow, made_same, changes_on, least_changes, keeps_plan}
use Rattle.rules.proofs.PlanKept.{asked_alone_changes}
use Rattle.rules.proofs.least.change_least.Goals as goal

pub returns-then-keeps_plan : goal.returns-then-keeps_plan
returns-then-keeps_plan c =
    let s = c.args.slice.now in
    let rows = c.as_slice.ensures.value ∙ c.in_ok-rows.ensures in
    let asked = c.in_ok-asked.ensures ∙ ap (λ (row : LeastRow). row ∷ []) c.least_row_put.ensures in
    let keeps : keeps_plan s c.as_slice.result.now ≡ true = sym c.keeps_plan.ensures ∙ c.if-keeps_plan.true in
    c.change_asked.ensures ∙ asked_alone_changes s c.as_slice.result.now c.in_ok-asked.asked keeps ∙ (λ i. changes_on s s.meta.day (rows i) (asked i))

pub returns : goal.returns
returns c =
    let s = c.args.slice.now in
    let rows = c.as_slice-2.ensures.value ∙ c.in_ok-rows.ensures in
    let asked = c.in_ok-asked.ensures ∙ ap (λ (row : LeastRow). row ∷ []) c.least_row_put.ensures in
    made_same c.change_on.result _ (least_changes s c.args.least.now) c.change_on.ensures
    (λ i. changes_on s s.meta.day (rows i) (asked i))
