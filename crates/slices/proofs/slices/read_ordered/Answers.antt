use Rattle.slices.proofs.Words.{◌≡◌, ℕ, List, subst, ◌∙◌, OrderRow, SqliteFailure, OutOfMemory, AreKnownOrders, AreUrgentsFor, orders_named}
use Rattle.slices.proofs.ReadSteps.{has_read, fails_first, fails_later, no_room_yet}
use Rattle.slices.proofs.KnowingSteps.{and_known, known_told}
use Rattle.slices.proofs.slices.read_ordered.Goals as goal

pub returns-in_err-named-clause-read : goal.returns-in_err-named-clause-read
returns-in_err-named-clause-read g c = no_room_yet (SqliteFailure OutOfMemory) c.from_residual.ensures

pub returns-in_err-orders-clause-read : goal.returns-in_err-orders-clause-read
returns-in_err-orders-clause-read g c = fails_first c.from_residual-in_err-orders.ensures c.in_err-orders.ensures.read

pub returns-in_err-urgents-clause-read : goal.returns-in_err-urgents-clause-read
returns-in_err-urgents-clause-read g c = fails_later (has_read c.in_ok-orders.ensures.read) c.from_residual-in_err-urgents.ensures c.in_err-urgents.ensures.read

pub returns-clause-read : goal.returns-clause-read
returns-clause-read g c =
    let known = c.args.known.now in
    let gtins = c.args.gtins.now in
    let of_orders : c.as_slice.result.now ≡ orders_named c.args.command.now = c.as_slice.ensures.value ∙ c.in_ok-named.ensures in
    known_told (and_known c.in_ok-orders.ensures.read c.in_ok-urgents.ensures.read)
    (λ t h. (
      subst (λ (l : List (List ℕ)). AreKnownOrders known.lines l gtins t c.in_ok-orders.orders.items c.in_ok-orders.lines.items) of_orders h.0,
      subst (λ (l : List OrderRow). AreUrgentsFor known.urgent gtins l t c.in_ok-urgents.urgents.items) c.as_slice-2.ensures.value h.1,
    ))
