use Rattle.queries.proofs.Words.{◌≡◌, List, filter, ap, subst, ◌∙◌, CardRow, SqliteFailure, OutOfMemory, has_read, then_read, fails_first, no_room_left, is_of_shipment, AreTold}
use Rattle.queries.proofs.shipped.read_shipments.Goals as goal

pub returns-in_err-cards-clause-read : goal.returns-in_err-cards-clause-read
returns-in_err-cards-clause-read g c = fails_first c.from_residual.ensures c.in_err-cards.ensures.read

pub returns-in_err-shipped-clause-read : goal.returns-in_err-shipped-clause-read
returns-in_err-shipped-clause-read g c = no_room_left (SqliteFailure OutOfMemory) (has_read c.in_ok-cards.ensures.read) c.from_residual-in_err-shipped.ensures

pub returns-clause-read : goal.returns-clause-read
returns-clause-read g c =
    let cards = c.in_ok-cards.cards.items in
    let named : c.as_slice-2.result.now ≡ filter is_of_shipment cards = c.as_slice-2.ensures.value ∙ c.in_ok-shipped.ensures ∙ ap (filter is_of_shipment) c.as_slice.ensures.value in
    then_read c.in_ok-cards.ensures.read c.read_told.ensures.read (λ t told h all. (cards, h, subst (λ (cs : List CardRow). AreTold t cs told) named all))
