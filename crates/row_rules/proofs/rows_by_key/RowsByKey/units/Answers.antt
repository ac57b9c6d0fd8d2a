use Rattle.row_rules.proofs.Words.{Bool, ap, ◌∙◌, if◌then◌else◌, capped}
use Rattle.row_rules.proofs.LookingUp.{total_given}
use Rattle.row_rules.proofs.rows_by_key.RowsByKey.units.Goals as goal

pub returns : goal.returns
returns g c =
    let test : g.row.T.Denot → Bool = λ r. g.K.Same.same c.args.key.now (g.T.Has.of_row r) in
    c.units_with.ensures
    ∙ ap capped (total_given (λ r. if test r then g.T.HasUnits.units r else 0) test (λ r e. ap (λ b. if b then g.T.HasUnits.units r else 0) e) c.candidates.result.now c.args.self.now c.candidates.ensures)
