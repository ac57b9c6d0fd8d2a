use Rattle.rules.proofs.Words.{◌∙◌, made_same, returning_replanned, recall_replanned}
use Rattle.rules.proofs.holding.recall_replanned.Goals as goal

pub returns : goal.returns
returns c =
    let s = c.args.slice.now in
    let lot = c.args.lot.now in
    let recalls = c.as_slice.ensures.value ∙ c.in_ok-recalls.ensures in
    made_same c.returning_replanned.result _ (recall_replanned s lot) c.returning_replanned.ensures
    (λ i. returning_replanned s lot (c.as_slice-lots.ensures i) (recalls i))
