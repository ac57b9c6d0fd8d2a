use Rattle.row_rules.proofs.Words.{◌∙◌, IfOk-weaker, shares_changed}
use Rattle.row_rules.proofs.replanning.replan_rows.Goals as goal

pub returns : goal.returns
returns c =
    let olds = c.as_slice.ensures.value ∙ c.in_ok-gone.ensures in
    let news = c.as_slice-2.ensures.value ∙ c.in_ok-come.ensures in
    IfOk-weaker c.shares_changed.result _ _ (λ r e. e ∙ (λ i. shares_changed c.args.gtin.now (olds i) (news i))) c.shares_changed.ensures
