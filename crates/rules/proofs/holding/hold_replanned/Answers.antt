use Rattle.rules.proofs.Words.{◌∙◌, made_same, returning_replanned, hold_replanned}
use Rattle.rules.proofs.holding.hold_replanned.Goals as goal

pub returns : goal.returns
returns c =
    let s = c.args.slice.now in
    let lot = c.args.lot.now in
    let lots = c.as_slice.ensures.value ∙ c.in_ok-lots.ensures in
    made_same c.returning_replanned.result _ (hold_replanned s lot) c.returning_replanned.ensures
    (λ i. returning_replanned s lot (lots i) (c.as_slice-recalls.ensures i))
