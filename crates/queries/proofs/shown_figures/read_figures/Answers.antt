use Rattle.queries.proofs.Words.{Tables, KnowsRows, has_read, read_on, fails_first, fails_later, unasked, and_known, known_told}
use Rattle.queries.proofs.shown_figures.read_figures.Goals as goal

pub returns-in_err-found-clause-read : goal.returns-in_err-found-clause-read
returns-in_err-found-clause-read g c = fails_first c.from_residual.ensures c.in_err-found.ensures.read

pub returns-in_err-house-clause-read : goal.returns-in_err-house-clause-read
returns-in_err-house-clause-read g c = fails_later (has_read c.in_ok-found.ensures.read) c.from_residual-in_err-house.ensures c.in_err-house.ensures.read

pub returns-in_err-recalls-clause-read : goal.returns-in_err-recalls-clause-read
returns-in_err-recalls-clause-read g c = fails_later (read_on (has_read c.in_ok-found.ensures.read) c.in_ok-house.ensures.read) c.from_residual-in_err-recalls.ensures c.in_err-recalls.ensures.read

pub returns-in_err-meta-clause-read : goal.returns-in_err-meta-clause-read
returns-in_err-meta-clause-read g c =
    fails_later (read_on (read_on (has_read c.in_ok-found.ensures.read) c.in_ok-house.ensures.read) c.in_ok-recalls.ensures.read) c.from_residual-in_err-meta.ensures c.in_err-meta.ensures.read

pub returns-clause-read : goal.returns-clause-read
returns-clause-read g c =
    let made = c.counted_rows.ensures in
    let after_house = λ (t : Tables). KnowsRows t c.read_house.new.rows in
    known_told (and_known (and_known (and_known c.in_ok-found.ensures.read c.in_ok-house.ensures.read) (unasked after_house c.in_ok-recalls.ensures.read)) c.in_ok-meta.ensures.read)
    (λ t h. record {
      open_rows = rw (made.same_orders, made.same_urgents, made.same_lines, made.same_reserved) h.0.0.0;
      house = rw (made.same_lots, made.same_stock, made.same_staged) h.0.0.1;
      recalls = rw made.same_recalls h.0.1;
      is_meta = h.1;
    })
