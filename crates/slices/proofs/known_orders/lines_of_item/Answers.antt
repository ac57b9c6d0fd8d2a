use Rattle.slices.proofs.Words.{◌≡◌, ℕ, List, true, sym, ap, subst, ◌∙◌, SqliteFailure, OutOfMemory, orders_at, are_apart, AreLinesFor, other_names}
use Rattle.slices.proofs.ReadSteps.{no_room_yet}
use Rattle.slices.proofs.KnowingSteps.{known_as}
use Rattle.slices.proofs.known_orders.lines_of_item.Goals as goal

pub returns-in_err-orders-clause-read : goal.returns-in_err-orders-clause-read
returns-in_err-orders-clause-read g c = no_room_yet (SqliteFailure OutOfMemory) c.from_residual.ensures

pub returns-clause-read : goal.returns-clause-read
returns-clause-read g c =
    let named = c.args.named.now in
    let sought : c.as_slice.result.now ≡ other_names named (orders_at c.args.known.now c.args.gtin.now) = c.as_slice.ensures.value ∙ c.in_ok-orders.ensures ∙ ap (other_names named) c.orders_of.ensures.orders in
    let once : are_apart (orders_at c.args.known.now c.args.gtin.now) ≡ true = ap are_apart (sym c.orders_of.ensures.orders) ∙ c.orders_of.ensures.once in
    known_as c.lines_for.ensures.read (λ t rows h. record { once = once; lines = subst (λ (l : List (List ℕ)). AreLinesFor l t c.args.gtin.now rows.items) sought h })
