use Rattle.queries.proofs.Words.{◌∙◌, has_read, fails_first, fails_later, and_known, known_told}
use Rattle.queries.specs.Traced.{trace_head_of}
use Rattle.queries.proofs.shown_trace.read_head.Goals as goal

pub returns-in_err-item-clause-read : goal.returns-in_err-item-clause-read
returns-in_err-item-clause-read g c = fails_first c.from_residual.ensures c.in_err-item.ensures.read

pub returns-in_err-lot-clause-read : goal.returns-in_err-lot-clause-read
returns-in_err-lot-clause-read g c = fails_later (has_read c.in_ok-item.ensures.read) c.from_residual-in_err-lot.ensures c.in_err-lot.ensures.read

pub returns-clause-read : goal.returns-clause-read
returns-clause-read g c = known_told (and_known c.in_ok-item.ensures.read c.in_ok-lot.ensures.read) (λ t h. c.trace_head_of.ensures ∙ (λ i. trace_head_of (h.0 i) (h.1 i)))
