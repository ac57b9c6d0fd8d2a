use Rattle.row_rules.proofs.Words.{◌≡◌, false, ◌==◌, length, rules, ap, ◌∙◌, reverse}
use Rattle.row_rules.specs.LookUps.{rows_at}
use Rattle.row_rules.proofs.KeyOrder.{others_given, sorted_given}
use Rattle.row_rules.proofs.row_index.RowsByText.candidates.Goals as goal

pub returns-then-is_empty : goal.returns-then-is_empty
returns-then-is_empty g c =
    let own = c.args.self.now in
    let none : length own.sorted ≡ 0 = search rules in
    others_given own.others.now own.sorted (reverse (g.K.HasText.text c.args.value.now)) none

pub returns : goal.returns
returns g c =
    let own = c.args.self.now in
    let some : (length own.sorted == 0) ≡ false = search rules in
    c.rows_of.ensures ∙ ap (rows_at own.sorted) c.key.ensures ∙ sorted_given own.others.now own.sorted (reverse (g.K.HasText.text c.args.value.now)) some
