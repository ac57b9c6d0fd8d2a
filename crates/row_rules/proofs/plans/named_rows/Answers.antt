use Rattle.row_rules.specs.LookUps.{row_given}
use Rattle.row_rules.proofs.Naming.{named_agree}
use Rattle.row_rules.proofs.Making.{same_items}
use Rattle.row_rules.proofs.plans.named_rows.Goals as goal

pub returns : goal.returns
returns c =
    let a = c.args in
    same_items c.name_rows.result _ _ c.name_rows.ensures
    (named_agree a.orders.now a.lots.now (row_given (λ o. o.act) c.in_ok-numbered.numbered) (row_given (λ k. k.came) c.in_ok-came.came) c.in_ok-numbered.ensures c.in_ok-came.ensures a.rows.now)
