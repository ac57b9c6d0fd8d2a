use Rattle.row_rules.proofs.Words.{Bool, ℕ, List, ap, ◌∙◌, filter, reverse, same_text}
use Rattle.row_rules.specs.LookUps.{rows_at}
use Rattle.row_rules.proofs.LookingUp.{filter_twice}
use Rattle.row_rules.proofs.KeyOrder.{no_others, rows_of_text}
use Rattle.row_rules.proofs.row_index.by_text.Goals as goal

pub returns : goal.returns
returns g c k =
    let text : g.row.T.Denot → List ℕ = λ r. g.K.HasText.text (g.T.Has.of_row r) in
    let test : g.row.T.Denot → Bool = λ r. same_text k (text r) in
    let key = reverse k in
    ap (filter test)
    (no_others c.in_ok-sorted.sorted key ∙ c.in_ok-sorted.ensures key ∙ ap (λ ps. rows_at ps key) c.in_ok-places.ensures.rows ∙ rows_of_text text k c.args.rows.now)
    ∙ filter_twice test c.args.rows.now
