use Rattle.rules.proofs.Words.{◌∙◌, None, none_put, bins, stages, rows_gone, keys_of}
use Rattle.rules.proofs.changes.changes_by.Goals as goal

pub returns : goal.returns
returns c =
    let p = c.args.posting.now in
    let facts = c.args.facts in
    let stock_gone = c.in_ok-in_bins.ensures.gone ∙ (λ i. rows_gone bins (keys_of bins p) (c.as_slice-before.ensures i) c.args.stock.now) in
    let staged_gone = c.in_ok-on_stages.ensures.gone ∙ (λ i. rows_gone stages (keys_of stages p) (c.as_slice.ensures i) c.args.staged.now) in
    let put = c.rows_of.ensures ∙ (λ i. record none_put { lots = facts.lots; stock = c.in_ok-in_bins.ensures.put i; staged = c.in_ok-on_stages.ensures.put i; reserved = c.args.reserved.put; cards = facts.cards }) in
    let dropped = c.dropped_of.ensures ∙ (λ i. record { stock = stock_gone i; stage = None; staged = staged_gone i; reserved = c.args.reserved.dropped }) in
    λ i. record { meta = c.meta_next.ensures i; put = put i; dropped = dropped i; text = facts.text }
