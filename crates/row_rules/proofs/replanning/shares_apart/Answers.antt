use Rattle.row_rules.proofs.Words.{ap, ◌∙◌, named_rows}
use Rattle.row_rules.proofs.Making.{same_items}
use Rattle.row_rules.proofs.replanning.shares_apart.Goals as goal

pub returns : goal.returns
returns c =
    let told = c.args.told.now in
    same_items c.named_rows.result _ _ c.named_rows.ensures (ap (named_rows told.orders.now told.lots.now) (c.as_slice.ensures.value ∙ c.in_ok-apart.ensures))
