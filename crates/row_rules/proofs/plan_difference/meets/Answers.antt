use Rattle.row_rules.proofs.Words.{sym, same_row}
use Rattle.row_rules.proofs.RowsApart.{any_within}
use Rattle.row_rules.proofs.plan_difference.meets.Goals as goal

pub returns-in-Some : goal.returns-in-Some
returns-in-Some c e = any_within (same_row c.args.row.now) c.args.others.now _ _ (sym c.in-Some.ensures)
