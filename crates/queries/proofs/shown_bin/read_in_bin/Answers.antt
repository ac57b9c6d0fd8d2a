use Rattle.queries.proofs.Words.{◌≡◌, List, ap, subst, LotId, Tables, AreLotsOf, KnowsRows, has_read, fails_first, fails_later, unasked, and_known, known_told, lots_of_stock}
use Rattle.queries.proofs.shown_bin.read_in_bin.Goals as goal

pub returns-in_err-stock-clause-read : goal.returns-in_err-stock-clause-read
returns-in_err-stock-clause-read g c = fails_first c.from_residual.ensures c.in_err-stock.ensures.read

pub returns-in_err-lots-clause-read : goal.returns-in_err-lots-clause-read
returns-in_err-lots-clause-read g c = fails_later (has_read c.in_ok-stock.ensures.read) c.from_residual-in_err-lots.ensures c.in_err-lots.ensures.read

pub returns-clause-read : goal.returns-clause-read
returns-clause-read g c =
    let before = λ (t : Tables). KnowsRows t c.args.rows.now in
    let these : lots_of_stock c.as_slice.result.now ≡ lots_of_stock c.in_ok-stock.stock.items = ap lots_of_stock c.as_slice.ensures.value in
    known_told (and_known (unasked before c.in_ok-stock.ensures.read) c.in_ok-lots.ensures.read)
    (λ t h. record { in_bin = h.0; all_lots = subst (λ (ls : List LotId). AreLotsOf ls t c.in_ok-lots.lots.items) these h.1 })
