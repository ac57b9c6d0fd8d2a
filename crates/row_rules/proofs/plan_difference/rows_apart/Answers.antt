use Rattle.row_rules.proofs.Words.{ap, ◌∙◌, rows_apart}
use Rattle.row_rules.proofs.Making.{same_items}
use Rattle.row_rules.proofs.plan_difference.rows_apart.Goals as goal

pub returns : goal.returns
returns c =
    same_items c.rows_not_found.result _ _ c.rows_not_found.ensures (ap (rows_apart c.args.others.now) c.as_slice.ensures.value ∙ c.in_ok-left.ensures)
