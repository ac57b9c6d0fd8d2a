use Rattle.slices.proofs.Words.{◌∙◌, LineKey, same_line, line_key, first_row, itself_both, itself_bytes}
use Rattle.slices.proofs.ReadSteps.{as_told}
use Rattle.slices.proofs.one_table.line_row.Goals as goal

pub returns-clause-read : goal.returns-clause-read
returns-clause-read g c =
    let key : LineKey = (c.args.order.now, c.args.gtin.now) in
    as_told c.read_row.ensures.read (λ t row h. h.2 ∙ first_row {K = LineKey} same_line line_key key (λ k. t.line k.0 k.1) h.0 (itself_both _ _ (itself_bytes key.0) (itself_bytes key.1)) h.1)
