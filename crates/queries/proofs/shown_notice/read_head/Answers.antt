use Rattle.queries.proofs.Words.{◌∙◌, head_of, has_read, read_on, fails_first, fails_later, and_known, known_told}
use Rattle.queries.proofs.shown_notice.read_head.Goals as goal

pub returns-in_err-item-clause-read : goal.returns-in_err-item-clause-read
returns-in_err-item-clause-read g c = fails_first c.from_residual.ensures c.in_err-item.ensures.read

pub returns-in_err-recall-clause-read : goal.returns-in_err-recall-clause-read
returns-in_err-recall-clause-read g c = fails_later (has_read c.in_ok-item.ensures.read) c.from_residual-in_err-recall.ensures c.in_err-recall.ensures.read

pub returns-in_err-lot-clause-read : goal.returns-in_err-lot-clause-read
returns-in_err-lot-clause-read g c = fails_later (read_on (has_read c.in_ok-item.ensures.read) c.in_ok-recall.ensures.read) c.from_residual-in_err-lot.ensures c.in_err-lot.ensures.read

pub returns-clause-read : goal.returns-clause-read
returns-clause-read g c =
    known_told (and_known (and_known c.in_ok-item.ensures.read c.in_ok-recall.ensures.read) c.in_ok-lot.ensures.read)
    (λ t h. c.head_of.ensures ∙ (λ i. head_of (h.0.0 i) (h.0.1 i) (h.1 i)))
