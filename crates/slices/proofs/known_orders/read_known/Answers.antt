use Rattle.slices.proofs.Words.{◌≡◌, ℕ, List, [], subst, ap, ◌∙◌, LineRow, SqliteFailure, OutOfMemory, AreOrders, with_names}
use Rattle.slices.proofs.ReadSteps.{has_read, fails_first, fails_later, no_room_left}
use Rattle.slices.proofs.KnowingSteps.{and_known, known_told}
use Rattle.slices.proofs.known_orders.read_known.Goals as goal

pub returns-in_err-lines-clause-read : goal.returns-in_err-lines-clause-read
returns-in_err-lines-clause-read g c = fails_first c.from_residual.ensures c.in_err-lines.ensures.read

pub returns-in_err-names-clause-read : goal.returns-in_err-names-clause-read
returns-in_err-names-clause-read g c = no_room_left (SqliteFailure OutOfMemory) (has_read c.in_ok-lines.ensures.read) c.from_residual-in_err-names.ensures

pub returns-in_err-orders-clause-read : goal.returns-in_err-orders-clause-read
returns-in_err-orders-clause-read g c = fails_later (has_read c.in_ok-lines.ensures.read) c.from_residual-in_err-orders.ensures c.in_err-orders.ensures.read

pub returns-clause-read : goal.returns-clause-read
returns-clause-read g c =
    let names_are : c.as_slice-2.result.now ≡ with_names (λ (r : LineRow). r.order) c.in_ok-lines.lines.items [] = c.as_slice-2.ensures.value ∙ c.in_ok-names.ensures ∙ ap (λ l. with_names (λ (r : LineRow). r.order) l []) c.as_slice.ensures.value in
    known_told (and_known c.in_ok-lines.ensures.read c.in_ok-orders.ensures.read)
    (λ t h. record { lines = h.0; orders = subst (λ (l : List (List ℕ)). AreOrders l t c.in_ok-orders.orders.items) names_are h.1 })
