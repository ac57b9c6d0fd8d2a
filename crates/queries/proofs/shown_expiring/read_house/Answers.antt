use Rattle.queries.proofs.Words.{subst, List, ◌≡◌, LotId, Tables, AreLotsOf, KnowsRows, has_read, read_on, fails_first, fails_later, unasked, and_known, known_told, lots_in_house}
use Rattle.queries.proofs.shown_expiring.read_house.Goals as goal

pub returns-in_err-stock-clause-read : goal.returns-in_err-stock-clause-read
returns-in_err-stock-clause-read g c = fails_first c.from_residual.ensures c.in_err-stock.ensures.read

pub returns-in_err-staged-clause-read : goal.returns-in_err-staged-clause-read
returns-in_err-staged-clause-read g c = fails_later (has_read c.in_ok-stock.ensures.read) c.from_residual-in_err-staged.ensures c.in_err-staged.ensures.read

pub returns-in_err-lots-clause-read : goal.returns-in_err-lots-clause-read
returns-in_err-lots-clause-read g c = fails_later (read_on (has_read c.in_ok-stock.ensures.read) c.in_ok-staged.ensures.read) c.from_residual-in_err-lots.ensures c.in_err-lots.ensures.read

pub returns-clause-read : goal.returns-clause-read
returns-clause-read g c =
    let before = λ (t : Tables). KnowsRows t c.args.rows.now in
    let these : lots_in_house c.as_slice.result.now c.as_slice-2.result.now ≡ lots_in_house c.in_ok-stock.stock.items c.in_ok-staged.staged.items =
    (λ i. lots_in_house (c.as_slice.ensures.value i) (c.as_slice-2.ensures.value i)) in
    known_told (and_known (and_known (unasked before c.in_ok-stock.ensures.read) (unasked before c.in_ok-staged.ensures.read)) c.in_ok-lots.ensures.read)
    (λ t h. record {
      all_stock = h.0.0;
      all_staged = h.0.1;
      all_lots = subst (λ (ls : List LotId). AreLotsOf ls t c.in_ok-lots.lots.items) these h.1;
    })
