use Rattle.views.proofs.Words.{◌∙◌}
use Rattle.views.proofs.OrderSums.{units_of_own}
use Rattle.views.proofs.open_orders.open_order.Goals as goal

pub returns : goal.returns
returns c =
    let a = c.args in
    let o = a.order.now in
    let units = c.order_units-units.ensures ∙ units_of_own c.candidates-own.result.now a.lines.now a.staged.now a.reserved.now o.row c.candidates-own.ensures in
    (λ i. record {
      class = c.class_of.ensures i;
      customer = o.row.customer;
      order = o.row.order;
      ordered = (units i).ordered;
      reserved = (units i).reserved;
      shipped = (units i).shipped;
      short = (units i).short;
      staged = (units i).staged;
    })
