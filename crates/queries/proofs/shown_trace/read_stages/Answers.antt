use Rattle.queries.proofs.Words.{◌≡◌, List, ℕ, ap, subst, ◌∙◌, filter, is_lot, StagedRow, SqliteFailure, OutOfMemory, AreOrders, has_read, fails_first, fails_later, no_room_left, and_known, known_told}
use Rattle.queries.specs.Traced.{orders_staged}
use Rattle.queries.proofs.OfItem.{of_one}
use Rattle.queries.proofs.shown_trace.read_stages.Goals as goal

pub returns-in_err-of_item-clause-read : goal.returns-in_err-of_item-clause-read
returns-in_err-of_item-clause-read g c = fails_first c.from_residual.ensures c.in_err-of_item.ensures.read

pub returns-in_err-staged-clause-read : goal.returns-in_err-staged-clause-read
returns-in_err-staged-clause-read g c = no_room_left (SqliteFailure OutOfMemory) (has_read c.in_ok-of_item.ensures.read) c.from_residual-in_err-staged.ensures

pub returns-in_err-names-clause-read : goal.returns-in_err-names-clause-read
returns-in_err-names-clause-read g c = no_room_left (SqliteFailure OutOfMemory) (has_read c.in_ok-of_item.ensures.read) c.from_residual-in_err-names.ensures

pub returns-in_err-orders-clause-read : goal.returns-in_err-orders-clause-read
returns-in_err-orders-clause-read g c = fails_later (has_read c.in_ok-of_item.ensures.read) c.from_residual-in_err-orders.ensures c.in_err-orders.ensures.read

pub returns-clause-read : goal.returns-clause-read
returns-clause-read g c =
    let l = c.args.lot.now in
    let all = c.in_ok-of_item.of_item.items in
    let staged = c.in_ok-staged.staged.items in
    let own : staged ≡ filter (λ (r : StagedRow). is_lot l r.lot) all = c.in_ok-staged.ensures ∙ ap (filter (λ (r : StagedRow). is_lot l r.lot)) c.as_slice.ensures.value in
    let named : c.as_slice-3.result.now ≡ orders_staged staged = c.as_slice-3.ensures.value ∙ c.in_ok-names.ensures ∙ ap orders_staged c.as_slice-2.ensures.value in
    known_told (and_known c.in_ok-of_item.ensures.read c.in_ok-orders.ensures.read)
    (λ t h. record { all = all; of_item = of_one l.gtin t all h.0; own = own; their_orders = subst (λ (ns : List (List ℕ)). AreOrders ns t c.in_ok-orders.orders.items) named h.1 })
