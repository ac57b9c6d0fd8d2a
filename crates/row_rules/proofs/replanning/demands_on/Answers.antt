use Rattle.row_rules.proofs.Making.{same_items}
use Rattle.row_rules.proofs.Sides.{needed_told}
use Rattle.row_rules.proofs.replanning.demands_on.Goals as goal

pub returns-clause-told : goal.returns-clause-told
returns-clause-told c =
    same_items c.demands_of_item.result _ _ c.demands_of_item.ensures.told (needed_told c.args.gtin.now c.in_ok-indexed.indexed c.args.rows.now c.in_ok-indexed.ensures)
