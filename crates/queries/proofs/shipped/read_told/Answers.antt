use Rattle.queries.proofs.Words.{◌≡◌, ◌+◌, List, [], ◌∷◌, ◌++◌, drop, Ok, refl, sym, ap, subst, ◌∙◌, arith, drop_more, drop_all, CardRow, ShippedUnits, state, SqliteFailure, OutOfMemory, IsRead, read_none, has_read, read_on, and_then, so_told, fails_later, no_room_left}
use Rattle.queries.proofs.ShippedTold.{AreToldSoFar, none_yet, one_more, none_told, all_told}
use Rattle.queries.proofs.shipped.read_told.Goals as goal

pub loop-card-init : goal.loop-card-init
loop-card-init g c =
    let cards = c.args.cards.now in
    (refl, rw c.new-told.ensures.items (read_none {X = List ShippedUnits} (λ t told. AreToldSoFar t cards cards told) (state g.S.Store c.args.tx.now.conn.now) [] (λ t. none_yet t cards)))

pub returns-in_err-found-clause-read : goal.returns-in_err-found-clause-read
returns-in_err-found-clause-read g c = fails_later (has_read c.loop-card.invariant.1) c.from_residual.ensures c.in_err-found.ensures.read

pub returns-in_err-push-in-Some-clause-read : goal.returns-in_err-push-in-Some-clause-read
returns-in_err-push-in-Some-clause-read g c = no_room_left (SqliteFailure OutOfMemory) (read_on (has_read c.loop-card.invariant.1) c.in_ok-found.ensures.read) c.from_residual-in_err-push-in-Some.ensures

pub returns-in-None-clause-read : goal.returns-in-None-clause-read
returns-in-None-clause-read g c =
    let cards = c.args.cards.now in
    let i = c.loop-card.card-index in
    let card = c.card-item.result in
    let told = c.loop-card.told.items in
    let left_is : drop i cards ≡ card ∷ drop (i + 1) cards = drop_more cards i card (omega arith) ∙ ap (λ (x : CardRow). x ∷ drop (i + 1) cards) (sym c.card-item.is) in
    so_told (and_then c.loop-card.invariant.1 c.in_ok-found.ensures.read)
    (λ t h. none_told t cards card (drop (i + 1) cards) told (subst (λ (left : List CardRow). AreToldSoFar t cards left told) left_is h.0) (λ u tells. sym c.in-None.is ∙ h.1 u tells))

pub loop-card-preserved : goal.loop-card-preserved
loop-card-preserved g c =
    let cards = c.args.cards.now in
    let i = c.loop-card.card-index in
    let card = c.card-item.result in
    let told = c.loop-card.told.items in
    let units = c.in-Some.units in
    let left_is : drop i cards ≡ card ∷ drop (i + 1) cards = drop_more cards i card (omega arith) ∙ ap (λ (x : CardRow). x ∷ drop (i + 1) cards) (sym c.card-item.is) in
    let step = so_told {Y = List ShippedUnits} {Q = λ t xs. AreToldSoFar t cards (drop (i + 1) cards) xs} {y = told ++ units ∷ []} (and_then c.loop-card.invariant.1 c.in_ok-found.ensures.read)
    (λ t h. one_more t cards card (drop (i + 1) cards) told units (subst (λ (left : List CardRow). AreToldSoFar t cards left told) left_is h.0) (λ u tells. sym c.in-Some.is ∙ h.1 u tells)) in (
      c.in_ok-found.ensures.same_reference ∙ c.loop-card.invariant.0,
      subst (λ (xs : List ShippedUnits). IsRead {X = List ShippedUnits} (λ t told. AreToldSoFar t cards (drop (i + 1) cards) told) (state g.S.Store c.args.tx.now.conn.now) (state g.S.Store c.told_of.new.tx.conn.now) (Ok xs)) (sym c.in_ok-push-in-Some.ensures.items) step,
    )

pub returns-clause-read : goal.returns-clause-read
returns-clause-read g c =
    let cards = c.args.cards.now in
    let none : drop c.loop-card.card-index cards ≡ [] = drop_all c.loop-card.card-index cards (omega arith) in
    so_told c.loop-card.invariant.1 (λ t h. all_told t cards c.loop-card.told (subst (λ (left : List CardRow). AreToldSoFar t cards left c.loop-card.told.items) none h))
