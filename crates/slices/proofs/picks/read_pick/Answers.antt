use Rattle.slices.proofs.ReadSteps.{has_read, read_on, fails_first, fails_later}
use Rattle.slices.proofs.KnowingSteps.{and_known, known_told}
use Rattle.slices.proofs.picks.read_pick.Goals as goal

pub returns-in_err-goods-clause-read : goal.returns-in_err-goods-clause-read
returns-in_err-goods-clause-read g c = fails_first c.from_residual.ensures c.in_err-goods.ensures.read

pub returns-in_err-ordered-clause-read : goal.returns-in_err-ordered-clause-read
returns-in_err-ordered-clause-read g c = fails_later (has_read c.in_ok-goods.ensures.read) c.from_residual-in_err-ordered.ensures c.in_err-ordered.ensures.read

pub returns-in_err-shares-clause-read : goal.returns-in_err-shares-clause-read
returns-in_err-shares-clause-read g c = fails_later (read_on (has_read c.in_ok-goods.ensures.read) c.in_ok-ordered.ensures.read) c.from_residual-in_err-shares.ensures c.in_err-shares.ensures.read

pub returns-clause-read : goal.returns-clause-read
returns-clause-read g c =
    let made = c.rows_read.ensures in
    known_told (and_known (and_known c.in_ok-goods.ensures.read c.in_ok-ordered.ensures.read) c.in_ok-shares.ensures.read)
    (λ t h. record {
      goods = rw (made.same_items, made.same_least, made.same_bins, made.same_lots, made.same_recalls, made.same_stock) h.0.0;
      ordered = rw (made.same_orders, made.same_urgents, made.same_lines) h.0.1;
      shares = rw (made.same_staged, made.same_reserved) h.1;
    })
