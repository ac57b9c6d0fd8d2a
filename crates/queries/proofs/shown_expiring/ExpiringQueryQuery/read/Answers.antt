use Rattle.queries.proofs.Words.{ℤ, Some, None, subst, option_copied, has_read, fails_first, fails_later, and_known, AreExpiring}
use Rattle.queries.proofs.Asked.{asked}
use Rattle.queries.proofs.ExpiringRight.{expiring_from_first, expiring_behind, no_lot}
use Rattle.queries.proofs.shown_expiring.ExpiringQueryQuery.read.Goals as goal

pub returns-in_err-found-in-None-clause-read : goal.returns-in_err-found-in-None-clause-read
returns-in_err-found-in-None-clause-read g c = fails_first c.from_residual.ensures c.in_err-found-in-None.ensures.read

pub returns-in_ok-found-in-None-clause-read : goal.returns-in_ok-found-in-None-clause-read
returns-in_ok-found-in-None-clause-read g c =
    let found = c.in_ok-found-in-None.found in
    asked (option_copied c.args._known) c.in_ok-found-in-None.ensures.read
    (λ t is h. expiring_from_first t c.args.self.now.day c.args.self.now.behind c.in-None.is found (subst (λ (d : ℤ). AreExpiring d None t found.0 found.1.0.items found.1.1) c.day-day.ensures.value h))

pub returns-in_err-last-in-Some-clause-read : goal.returns-in_err-last-in-Some-clause-read
returns-in_err-last-in-Some-clause-read g c = fails_first c.from_residual-in_err-last-in-Some.ensures c.in_err-last-in-Some.ensures.read

pub returns-in_err-found-in-Some-last-clause-read : goal.returns-in_err-found-in-Some-last-clause-read
returns-in_err-found-in-Some-last-clause-read g c = fails_later (has_read c.in_ok-last-in-Some.ensures.read) c.from_residual-in_err-found-in-Some-last.ensures c.in_err-found-in-Some-last.ensures.read

pub returns-in_ok-found-in-Some-last-clause-read : goal.returns-in_ok-found-in-Some-last-clause-read
returns-in_ok-found-in-Some-last-clause-read g c =
    let found = c.in_ok-found-in-Some-last.found in
    asked (option_copied c.args._known) (and_known c.in_ok-last-in-Some.ensures.read c.in_ok-found-in-Some-last.ensures.read)
    (λ t is h. expiring_behind t c.args.self.now.day c.args.self.now.behind c.in-Some.lot c.in-Some.is c.in_ok-last-in-Some.last c.in-Some-last.seen c.in-Some-last.is h.0 found
    (subst (λ (d : ℤ). AreExpiring d (Some c.in-Some-last.seen) t found.0 found.1.0.items found.1.1) c.day-day.ensures.value h.1))

pub returns-in-None-last-clause-read : goal.returns-in-None-last-clause-read
returns-in-None-last-clause-read g c =
    asked (option_copied c.args._known) c.in_ok-last-in-Some.ensures.read (λ t is h. no_lot t c.args.self.now.day c.args.self.now.behind c.in-Some.lot c.in-Some.is c.in_ok-last-in-Some.last c.in-None-last.is h)
