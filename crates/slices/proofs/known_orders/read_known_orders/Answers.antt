use Rattle.slices.proofs.Words.{◌++◌, ap, ◌∙◌, SqliteFailure, OutOfMemory}
use Rattle.slices.proofs.ReadSteps.{has_read, read_on, fails_first, fails_later, no_room_left}
use Rattle.slices.proofs.KnowingSteps.{and_known, known_told}
use Rattle.slices.proofs.known_orders.read_known_orders.Goals as goal

pub returns-in_err-orders-clause-read : goal.returns-in_err-orders-clause-read
returns-in_err-orders-clause-read g c = fails_first c.from_residual.ensures c.in_err-orders.ensures.read

pub returns-in_err-rest-clause-read : goal.returns-in_err-rest-clause-read
returns-in_err-rest-clause-read g c = fails_later (has_read c.in_ok-orders.ensures.read) c.from_residual-in_err-rest.ensures c.in_err-rest.ensures.read

pub returns-in_err-extend_from_slice-clause-read : goal.returns-in_err-extend_from_slice-clause-read
returns-in_err-extend_from_slice-clause-read g c = no_room_left (SqliteFailure OutOfMemory) (read_on (has_read c.in_ok-orders.ensures.read) c.in_ok-rest.ensures.read) c.from_residual-in_err-extend_from_slice.ensures

pub returns-in_err-extend_from_slice-2-clause-read : goal.returns-in_err-extend_from_slice-2-clause-read
returns-in_err-extend_from_slice-2-clause-read g c = no_room_left (SqliteFailure OutOfMemory) (read_on (has_read c.in_ok-orders.ensures.read) c.in_ok-rest.ensures.read) c.from_residual-in_err-extend_from_slice-2.ensures

pub returns-clause-read : goal.returns-clause-read
returns-clause-read g c =
    known_told (and_known c.in_ok-orders.ensures.read c.in_ok-rest.ensures.read)
    (λ t h. record {
      own = c.in_ok-orders.orders.items;
      own_lines = c.in_ok-orders.lines.items;
      rest = c.in_ok-rest.rest.items;
      rest_lines = c.in_ok-rest.rest_lines.items;
      is_own = h.0;
      is_rest = h.1;
      orders = c.in_ok-extend_from_slice.ensures.items ∙ ap (λ l. c.in_ok-orders.orders.items ++ l) c.as_slice.ensures.value;
      lines = c.in_ok-extend_from_slice-2.ensures.items ∙ ap (λ l. c.in_ok-orders.lines.items ++ l) c.as_slice-2.ensures.value;
    })
