use Rattle.row_rules.proofs.Words.{◌∙◌, IfOk-weaker, replanned_rows}
use Rattle.row_rules.proofs.replanning.replan_told.Goals as goal

pub returns : goal.returns
returns c =
    let g = c.args.gtin.now in
    let m = c.args.before.now in
    let n = c.args.after.now in
    let olds = c.as_slice-olds.ensures.value ∙ c.in_ok-plans.ensures.before in
    let news = c.as_slice-news.ensures.value ∙ c.in_ok-plans.ensures.after in
    IfOk-weaker c.replan_rows.result _ _ (λ r e. e ∙ (λ i. replanned_rows g m.orders.now m.lots.now (olds i) n.orders.now n.lots.now (news i))) c.replan_rows.ensures
