use Rattle.views.proofs.Words.{arith, ap, ◌∙◌, ◌++◌, [], ◌∷◌, if◌then◌else◌, OrderRow, served, is_listed, ServedOrder}
use Rattle.views.proofs.Walks.{made_more, made_all}
use Rattle.views.proofs.open_orders.orders_listed.Goals as goal

pub loop-order-preserved : goal.loop-order-preserved
loop-order-preserved c =
    let a = c.args in
    let l = c.loop-order in
    let f : OrderRow → ServedOrder = served a.urgents.now in
    let keep = is_listed a.seen.now in
    made_more keep f a.orders.now l.order-index l.listed.items c.order-item.result c.push_listed.new.listed.items c.loop-order-test.true l.invariant
    (c.in_ok-push_listed.ensures ∙ ap (λ (s : ServedOrder). l.listed.items ++ (if keep s then s ∷ [] else [])) (c.served.ensures ∙ ap f c.order-item.is))

pub returns : goal.returns
returns c =
    let a = c.args in
    let l = c.loop-order in
    made_all (is_listed a.seen.now) (served a.urgents.now) a.orders.now l.order-index l.listed.items (omega arith) l.invariant
