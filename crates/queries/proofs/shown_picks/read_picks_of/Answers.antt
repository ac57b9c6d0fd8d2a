use Rattle.queries.proofs.Words.{List, [], subst, LineRow, AreItemRows, with_names, has_read, fails_first, fails_later, and_known, known_told}
use Rattle.queries.proofs.shown_picks.read_picks_of.Goals as goal

pub returns-in_err-found-clause-read : goal.returns-in_err-found-clause-read
returns-in_err-found-clause-read g c = fails_first c.from_residual.ensures c.in_err-found.ensures.read

pub returns-in_err-items-clause-read : goal.returns-in_err-items-clause-read
returns-in_err-items-clause-read g c = fails_later (has_read c.in_ok-found.ensures.read) c.from_residual-in_err-items.ensures c.in_err-items.ensures.read

pub returns-clause-read : goal.returns-clause-read
returns-clause-read g c =
    known_told (and_known c.in_ok-found.ensures.read c.in_ok-items.ensures.read)
    (λ t h. record {
      of_order = h.0;
      named = subst (λ (ls : List LineRow). AreItemRows (with_names (λ r. r.gtin) ls []) t c.in_ok-items.items.items) c.as_slice.ensures h.1;
    })
