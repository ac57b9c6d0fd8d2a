use Rattle.row_rules.proofs.Words.{Bool, ap, ◌∙◌, filter, same_text, rows_given}
use Rattle.row_rules.proofs.LookingUp.{filter_given}
use Rattle.row_rules.proofs.rows_by_key.RowsByKey.candidates.Goals as goal

pub returns : goal.returns
returns g c =
    let key = c.args.key.now in
    let text = g.K.HasText.text key in
    let test : g.row.T.Denot → Bool = λ r. g.K.Same.same key (g.T.Has.of_row r) in
    let part : g.row.T.Denot → Bool = λ r. same_text text (g.K.HasText.text (g.T.Has.of_row r)) in
    ap (filter test) c.candidates.ensures
    ∙ filter_given test part (λ r e. g.met.K.HasText.told key (g.T.Has.of_row r) e) (rows_given c.self.inside.found text) c.self.inside.rows.now (c.self.invariant text)
    ∙ ap (filter test) c.self.view_is
