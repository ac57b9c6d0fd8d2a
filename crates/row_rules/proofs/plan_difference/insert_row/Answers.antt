use Rattle.row_rules.proofs.Words.{◌≡◌, true, cond, subst, is_at, contains, RowKey, row_cmp}
use Rattle.row_rules.proofs.RowsApart.{row_added}
use Rattle.row_rules.proofs.plan_difference.insert_row.Goals as goal

pub returns : goal.returns
returns c =
    let old = c.args.set.now in
    let updates =
    subst (λ (k : RowKey). (q : RowKey) → contains row_cmp c.insert.new.self q ≡ cond (is_at (row_cmp k) q) true (contains row_cmp old q)) c.key_of.ensures c.in_ok-insert.ensures.updates.0 in
    row_added c.args.row.now old c.insert.new.self updates
