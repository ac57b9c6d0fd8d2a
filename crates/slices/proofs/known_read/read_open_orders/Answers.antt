use Rattle.slices.proofs.Words.{◌≡◌, ℕ, List, [], map, subst, ap, ◌∙◌, LineRow, OrderRow, UrgentRow, SqliteFailure, OutOfMemory, Gains, has_line_row, order_key, AreAllLines, AreUrgents, urgent_lines}
use Rattle.slices.proofs.ReadSteps.{has_read, read_on, fails_first, fails_later, no_room_left}
use Rattle.slices.proofs.KnowingSteps.{and_known, known_told}
use Rattle.slices.proofs.known_read.read_open_orders.Goals as goal

pub returns-in_err-orders-clause-read : goal.returns-in_err-orders-clause-read
returns-in_err-orders-clause-read g c = fails_first c.from_residual.ensures c.in_err-orders.ensures.read

pub returns-in_err-names-clause-read : goal.returns-in_err-names-clause-read
returns-in_err-names-clause-read g c = no_room_left (SqliteFailure OutOfMemory) (has_read c.in_ok-orders.ensures.read) c.from_residual-in_err-names.ensures

pub returns-in_err-found-clause-read : goal.returns-in_err-found-clause-read
returns-in_err-found-clause-read g c = fails_later (has_read c.in_ok-orders.ensures.read) c.from_residual-in_err-found.ensures c.in_err-found.ensures.read

pub returns-in_err-urgents-clause-read : goal.returns-in_err-urgents-clause-read
returns-in_err-urgents-clause-read g c = fails_later (read_on (has_read c.in_ok-orders.ensures.read) c.in_ok-found.ensures.read) c.from_residual-in_err-urgents.ensures c.in_err-urgents.ensures.read

pub returns-in_err-urgent-clause-read : goal.returns-in_err-urgent-clause-read
returns-in_err-urgent-clause-read g c =
    no_room_left (SqliteFailure OutOfMemory) (read_on (read_on (has_read c.in_ok-orders.ensures.read) c.in_ok-found.ensures.read) c.in_ok-urgents.ensures.read) c.from_residual-in_err-urgent.ensures

pub returns-in_err-lines-clause-read : goal.returns-in_err-lines-clause-read
returns-in_err-lines-clause-read g c =
    no_room_left (SqliteFailure OutOfMemory) (read_on (read_on (has_read c.in_ok-orders.ensures.read) c.in_ok-found.ensures.read) c.in_ok-urgents.ensures.read) c.from_residual-in_err-lines.ensures

pub returns-clause-read : goal.returns-clause-read
returns-clause-read g c =
    let all = c.in_ok-orders.orders.items in
    let rows = c.in_ok-found.found.items in
    let urgents = c.in_ok-urgents.urgents.items in
    let named : c.in_ok-names.names.items ≡ map order_key all = c.in_ok-names.ensures ∙ ap (map (λ (r : OrderRow). r.order)) c.as_slice.ensures.value in
    known_told (and_known (and_known c.in_ok-orders.ensures.read c.in_ok-found.ensures.read) c.in_ok-urgents.ensures.read)
    (λ t h. record {
      all = all;
      read = h.0.0;
      lines = rows;
      lines_read = subst (λ (l : List (List ℕ)). AreAllLines l t rows) (c.as_slice-2.ensures.value ∙ named) h.0.1;
      added = subst (λ (l : List LineRow). Gains (has_line_row l) [] c.in_ok-lines.lines) c.as_slice-6.ensures.value c.in_ok-lines.ensures;
      urgents = urgents;
      urgents_read = subst (λ (l : List (List ℕ)). AreUrgents l t urgents) (c.as_slice-3.ensures.value ∙ named) h.1;
      urgent_added = subst (λ (l : List LineRow). Gains (has_line_row (urgent_lines urgents l)) [] c.in_ok-urgent.urgent) c.as_slice-4.ensures.value
          (subst (λ (l : List UrgentRow). Gains (has_line_row (urgent_lines l c.as_slice-4.result.now)) [] c.in_ok-urgent.urgent) c.as_slice-5.ensures.value c.in_ok-urgent.ensures);
    })
