use Rattle.rules.proofs.Words.{Some, ap, ◌∙◌, rows_shipped}
use Rattle.rules.proofs.shipments.change_ship.Goals as goal

pub returns : goal.returns
returns c =
    let staged = c.in_ok-staged.ensures ∙ ap (rows_shipped c.args.order.now) c.as_slice.ensures in
    let put = c.in_ok-put.ensures (c.as_slice-2.ensures.value ∙ staged) in
    λ i. record { meta = c.meta_shipped.ensures i; put = put i; dropped = record (c.none_dropped.ensures i) { stage = Some c.args.order.now }; text = c.ship_reply.ensures i }
