use Rattle.row_rules.proofs.Words.{Bool, take, ap, ◌∙◌, ◌==◌, if◌then◌else◌, find, Some, None, option_or}
use Rattle.row_rules.proofs.LookingUp.{find_more}
use Rattle.row_rules.proofs.row_index.first_rows.Goals as goal

pub loop-row-preserved : goal.loop-row-preserved
loop-row-preserved g c n =
    let test : g.row.T.Denot → Bool = λ r. n == g.T.Numbered.number r in
    let rows = c.args.rows.now in
    let i = c.loop-row.row-index in
    let row = c.row-item.result in
    c.in_ok-add_first.ensures n ∙ ap (λ x. option_or x (if test row then Some row else None)) (c.loop-row.invariant n)
    ∙ ap (λ (r : g.row.T.Denot). option_or (find test (take i rows)) (if test r then Some r else None)) c.row-item.is ∙ find_more test rows i row c.loop-row-test.true
