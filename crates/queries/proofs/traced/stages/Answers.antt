use Rattle.queries.proofs.Words.{◌≡◌, List, [], subst, ◌∙◌, StagedRow, IfOk, OrderRow}
use Rattle.row_rules.specs.Plans.{inserted}
use Rattle.queries.specs.Telling.{AreToldOf}
use Rattle.queries.specs.Traced.{IsStaged, order_before}
use Rattle.queries.proofs.OrdersSorted.{by_order}
use Rattle.queries.proofs.traced.stages.Goals as goal

pub in_order-requires : goal.in_order-requires
in_order-requires c = by_order

pub returns : goal.returns
returns c =
    let named : c.as_slice.result.now ≡ inserted order_before [] c.args.staged.now = c.as_slice.ensures.value ∙ c.in_ok-sorted.ensures in
    subst (λ (rs : List StagedRow). IfOk c.stages_of.result (λ told. AreToldOf (IsStaged c.args.orders.now) rs told)) named
    (subst (λ (os : List OrderRow). IfOk c.stages_of.result (λ told. AreToldOf (IsStaged os) c.as_slice.result.now told)) c.in_ok-found.ensures c.stages_of.ensures)
