use Rattle.row_rules.proofs.Words.{Bool, ◌∙◌}
use Rattle.row_rules.proofs.LookingUp.{find_given}
use Rattle.row_rules.proofs.rows_by_key.RowsByKey.find.Goals as goal

pub returns : goal.returns
returns g c =
    let test : g.row.T.Denot → Bool = λ r. g.K.Same.same c.args.key.now (g.T.Has.of_row r) in
    c.find_row.ensures ∙ find_given test test (λ r e. e) c.candidates.result.now c.args.self.now c.candidates.ensures
