use Rattle.row_rules.proofs.Words.{ap, ◌∙◌, has_qty}
use Rattle.row_rules.proofs.plans.IsThereTestReservedRow.passes.Goals as goal

pub returns : goal.returns
returns c =
    let row = c.args.row.now in
    c.is_qty.ensures ∙ ap (λ old. has_qty old row.qty) c.find.ensures
