use Rattle.queries.proofs.Words.{◌≡◌, List, filter, subst, ◌∙◌, CardRow, IfOk}
use Rattle.queries.specs.Telling.{AreToldOf}
use Rattle.queries.specs.Traced.{is_receipt, IsDelivery}
use Rattle.queries.proofs.traced.deliveries.Goals as goal

pub returns : goal.returns
returns c =
    let named : c.as_slice.result.now ≡ filter is_receipt c.args.cards.now = c.as_slice.ensures.value ∙ c.in_ok-receipts.ensures in
    subst (λ (cs : List CardRow). IfOk c.deliveries_of.result (λ told. AreToldOf IsDelivery cs told)) named c.deliveries_of.ensures
