-- Rows in the order of the names of their orders.
use Rattle.row_rules.specs.LookUps.{IsOrder}
use Rattle.views.proofs.Ranks.{text_turned, text_behind}
use Rattle.queries.specs.Traced.{order_before}

pub by_order : IsOrder order_before
by_order = record { turned = λ r s. text_turned r.order s.order; further = λ r s q. text_behind r.order s.order q.order }
