use Rattle.row_rules.proofs.Words.{List, ap, ReservedRow, rows_to_put}
use Rattle.row_rules.proofs.Making.{same_items}
use Rattle.row_rules.proofs.plans.rows_to_put.Goals as goal

pub returns : goal.returns
returns c = same_items c.failing.result _ _ c.failing.ensures (ap (λ (olds : List ReservedRow). rows_to_put olds c.args.news.now) c.in_ok-by_share.ensures)
