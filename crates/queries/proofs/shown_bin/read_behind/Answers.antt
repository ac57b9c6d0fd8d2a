use Rattle.queries.proofs.Words.{has_read, fails_first, fails_later, and_known, known_told}
use Rattle.queries.proofs.BinRight.{from_first, from_lot, no_lot}
use Rattle.queries.proofs.shown_bin.read_behind.Goals as goal

pub returns-in_err-found-in-None-clause-read : goal.returns-in_err-found-in-None-clause-read
returns-in_err-found-in-None-clause-read g c = fails_first c.from_residual.ensures c.in_err-found-in-None.ensures.read

pub returns-in_ok-found-in-None-clause-read : goal.returns-in_ok-found-in-None-clause-read
returns-in_ok-found-in-None-clause-read g c = known_told c.in_ok-found-in-None.ensures.read (λ t h. from_first t c.args.bin c.args.behind c.in-None.is c.in_ok-found-in-None.found h)

pub returns-in_err-last-in-Some-clause-read : goal.returns-in_err-last-in-Some-clause-read
returns-in_err-last-in-Some-clause-read g c = fails_first c.from_residual-in_err-last-in-Some.ensures c.in_err-last-in-Some.ensures.read

pub returns-in_err-found-in-Some-last-clause-read : goal.returns-in_err-found-in-Some-last-clause-read
returns-in_err-found-in-Some-last-clause-read g c = fails_later (has_read c.in_ok-last-in-Some.ensures.read) c.from_residual-in_err-found-in-Some-last.ensures c.in_err-found-in-Some-last.ensures.read

pub returns-in_ok-found-in-Some-last-clause-read : goal.returns-in_ok-found-in-Some-last-clause-read
returns-in_ok-found-in-Some-last-clause-read g c =
    known_told (and_known c.in_ok-last-in-Some.ensures.read c.in_ok-found-in-Some-last.ensures.read)
    (λ t h. from_lot t c.args.bin c.args.behind c.in-Some.lot c.in-Some.is c.in_ok-last-in-Some.last c.in-Some-last.seen c.in-Some-last.is h.0 c.in_ok-found-in-Some-last.found h.1)

pub returns-in-None-last-clause-read : goal.returns-in-None-last-clause-read
returns-in-None-last-clause-read g c = known_told c.in_ok-last-in-Some.ensures.read (λ t h. no_lot t c.args.bin c.args.behind c.in-Some.lot c.in-Some.is c.in_ok-last-in-Some.last c.in-None-last.is h)
