use Rattle.queries.proofs.Words.{◌≡◌, ◌+◌, List, [], ◌∷◌, drop, sym, ap, subst, ◌∙◌, arith, drop_more, drop_all, CardRow}
use Rattle.overviews.specs.declared.trace.Delivery.{Delivery}
use Rattle.queries.specs.Traced.{IsDelivery}
use Rattle.queries.proofs.Telling.{AreToldYet, none_yet, one_more, none_told, all_told}
use Rattle.queries.proofs.traced.deliveries_of.Goals as goal

pub loop-card-init : goal.loop-card-init
loop-card-init c = rw c.new-told.ensures.items (none_yet IsDelivery c.args.cards.now)

pub returns-in-None : goal.returns-in-None
returns-in-None c =
    let cards = c.args.cards.now in
    let i = c.loop-card.card-index in
    let card = c.card-item.result in
    let left_is : drop i cards ≡ card ∷ drop (i + 1) cards = drop_more cards i card (omega arith) ∙ ap (λ (x : CardRow). x ∷ drop (i + 1) cards) (sym c.card-item.is) in
    none_told IsDelivery cards card (drop (i + 1) cards) c.loop-card.told.items (subst (λ (left : List CardRow). AreToldYet IsDelivery cards left c.loop-card.told.items) left_is c.loop-card.invariant) (λ d tells. sym c.in-None.is ∙ c.delivery_of.ensures d tells)

pub loop-card-preserved : goal.loop-card-preserved
loop-card-preserved c =
    let cards = c.args.cards.now in
    let i = c.loop-card.card-index in
    let card = c.card-item.result in
    let left_is : drop i cards ≡ card ∷ drop (i + 1) cards = drop_more cards i card (omega arith) ∙ ap (λ (x : CardRow). x ∷ drop (i + 1) cards) (sym c.card-item.is) in
    subst (λ (xs : List Delivery). AreToldYet IsDelivery cards (drop (i + 1) cards) xs) (sym c.in_ok-push-in-Some.ensures.items)
    (one_more IsDelivery cards card (drop (i + 1) cards) c.loop-card.told.items c.in-Some.delivery (subst (λ (left : List CardRow). AreToldYet IsDelivery cards left c.loop-card.told.items) left_is c.loop-card.invariant) (λ d tells. sym c.in-Some.is ∙ c.delivery_of.ensures d tells))

pub returns : goal.returns
returns c =
    let cards = c.args.cards.now in
    let none : drop c.loop-card.card-index cards ≡ [] = drop_all c.loop-card.card-index cards (omega arith) in
    all_told IsDelivery cards c.loop-card.told (subst (λ (left : List CardRow). AreToldYet IsDelivery cards left c.loop-card.told.items) none c.loop-card.invariant)
