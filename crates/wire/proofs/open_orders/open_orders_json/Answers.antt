use Rattle.wire.proofs.Words.{◌∙◌, open_orders_data}
use Rattle.wire.proofs.Adding.{written_is}
use Rattle.wire.proofs.open_orders.open_orders_json.Goals as goal

pub returns : goal.returns
returns c =
    written_is (open_orders_data c.args.shown.now) c.new-out.result c.put_open_orders.new.out c.into_inner.result.items c.new-out.ensures.tokens (c.new-out.ensures.before ∙ c.new.ensures.items) c.in_ok-put_open_orders.ensures c.into_inner.ensures.items
