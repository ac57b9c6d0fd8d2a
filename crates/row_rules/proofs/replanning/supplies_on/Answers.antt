use Rattle.row_rules.proofs.Making.{same_items}
use Rattle.row_rules.proofs.Sides.{offered_told}
use Rattle.row_rules.proofs.replanning.supplies_on.Goals as goal

pub returns-clause-told : goal.returns-clause-told
returns-clause-told c =
    same_items c.supplies_of_item.result _ _ c.supplies_of_item.ensures.told
    (offered_told c.args.gtin.now c.args.day c.in_ok-indexed.indexed c.args.rows.now c.in_ok-indexed.ensures)
