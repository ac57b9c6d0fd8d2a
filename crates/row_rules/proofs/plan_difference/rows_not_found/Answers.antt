use Rattle.row_rules.proofs.Words.{ap, not, list_any, contains, filter_agree, row_key, row_cmp, same_row}
use Rattle.row_rules.proofs.Making.{same_items}
use Rattle.row_rules.proofs.plan_difference.rows_not_found.Goals as goal

pub returns : goal.returns
returns c =
    let a = c.args in
    let set = c.in_ok-known.known in
    same_items c.failing-2.result _ _ c.failing-2.ensures (filter_agree (λ r. not (contains row_cmp set (row_key r))) (λ r. not (list_any (same_row r) a.others.now)) (λ r. ap not (c.in_ok-known.ensures r)) a.rows.now)
