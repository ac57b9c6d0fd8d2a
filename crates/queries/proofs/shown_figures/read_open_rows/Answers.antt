use Rattle.queries.proofs.Words.{List, map, subst, OrderRow, order_key, Tables, KnowsRows, AreAllLines, AreUrgents, has_read, read_on, fails_first, fails_later, unasked, and_known, known_told}
use Rattle.queries.proofs.shown_figures.read_open_rows.Goals as goal

pub returns-in_err-orders-clause-read : goal.returns-in_err-orders-clause-read
returns-in_err-orders-clause-read g c = fails_first c.from_residual.ensures c.in_err-orders.ensures.read

pub returns-in_err-urgents-clause-read : goal.returns-in_err-urgents-clause-read
returns-in_err-urgents-clause-read g c = fails_later (has_read c.in_ok-orders.ensures.read) c.from_residual-in_err-urgents.ensures c.in_err-urgents.ensures.read

pub returns-in_err-lines-clause-read : goal.returns-in_err-lines-clause-read
returns-in_err-lines-clause-read g c = fails_later (read_on (has_read c.in_ok-orders.ensures.read) c.in_ok-urgents.ensures.read) c.from_residual-in_err-lines.ensures c.in_err-lines.ensures.read

pub returns-in_err-reserved-clause-read : goal.returns-in_err-reserved-clause-read
returns-in_err-reserved-clause-read g c =
    fails_later (read_on (read_on (has_read c.in_ok-orders.ensures.read) c.in_ok-urgents.ensures.read) c.in_ok-lines.ensures.read) c.from_residual-in_err-reserved.ensures c.in_err-reserved.ensures.read

pub returns-clause-read : goal.returns-clause-read
returns-clause-read g c =
    let after_lines = λ (t : Tables). KnowsRows t c.read_lines_of.new.rows in
    known_told (and_known (and_known (and_known c.in_ok-orders.ensures.read c.in_ok-urgents.ensures.read) c.in_ok-lines.ensures.read) (unasked after_lines c.in_ok-reserved.ensures.read))
    (λ t h. record {
      all_open = h.0.0.0;
      are_urgent = subst (λ (l : List OrderRow). AreUrgents (map order_key l) t c.in_ok-urgents.urgents.items) c.as_slice.ensures.value h.0.0.1;
      all_lines = subst (λ (l : List OrderRow). AreAllLines (map order_key l) t c.in_ok-lines.lines.items) c.as_slice-2.ensures.value h.0.1;
      all_reserved = h.1;
    })
