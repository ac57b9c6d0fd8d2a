use Rattle.std.proofs.Common.{◌++◌, [], ◌∷◌, ap, ◌∙◌}
use Rattle.row_rules.proofs.change_parts.one.Goals as goal

pub returns : goal.returns
returns g c = c.from_vec.ensures ∙ c.in_ok-push.ensures.items ∙ ap (λ rows. rows ++ c.args.row ∷ []) c.new-rows.ensures.items
