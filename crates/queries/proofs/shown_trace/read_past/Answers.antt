use Rattle.queries.proofs.Words.{◌≡◌, List, filter, ap, subst, ◌∙◌, CardRow, SqliteFailure, OutOfMemory, has_read, fails_first, fails_later, no_room_left, and_then, so_told, is_of_shipment, AreTold}
use Rattle.queries.proofs.shown_trace.read_past.Goals as goal

pub returns-in_err-cards-clause-read : goal.returns-in_err-cards-clause-read
returns-in_err-cards-clause-read g c = fails_first c.from_residual.ensures c.in_err-cards.ensures.read

pub returns-in_err-shipped-clause-read : goal.returns-in_err-shipped-clause-read
returns-in_err-shipped-clause-read g c = no_room_left (SqliteFailure OutOfMemory) (has_read c.in_ok-cards.ensures.read) c.from_residual-in_err-shipped.ensures

pub returns-in_err-shipments-clause-read : goal.returns-in_err-shipments-clause-read
returns-in_err-shipments-clause-read g c = fails_later (has_read c.in_ok-cards.ensures.read) c.from_residual-in_err-shipments.ensures c.in_err-shipments.ensures.read

pub returns-clause-read : goal.returns-clause-read
returns-clause-read g c =
    let cards = c.in_ok-cards.cards.items in
    let named : c.as_slice-2.result.now ≡ filter is_of_shipment cards = c.as_slice-2.ensures.value ∙ c.in_ok-shipped.ensures ∙ ap (filter is_of_shipment) c.as_slice.ensures.value in
    so_told (and_then c.in_ok-cards.ensures.read c.in_ok-shipments.ensures.read) (λ t h. (h.0, subst (λ (cs : List CardRow). AreTold t cs c.in_ok-shipments.shipments) named h.1))
