use Rattle.row_rules.proofs.Words.{ap, rows_to_drop}
use Rattle.row_rules.proofs.Making.{same_items}
use Rattle.row_rules.proofs.plans.rows_to_drop.Goals as goal

pub returns : goal.returns
returns c = same_items c.passing.result _ _ c.passing.ensures (ap (rows_to_drop c.args.gtin.now c.args.olds.now) c.in_ok-by_share.ensures)
