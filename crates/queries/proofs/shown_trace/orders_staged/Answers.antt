use Rattle.queries.proofs.Words.{ap, ◌∙◌, StagedRow, same_text, with_keys}
use Rattle.queries.proofs.shown_trace.orders_staged.Goals as goal

pub returns : goal.returns
returns c =
    let none = c.new-list.ensures in
    c.into_values.ensures ∙ c.in_ok-add_all.ensures.added none.keyed ∙ ap (with_keys same_text (λ (r : StagedRow). r.order) c.args.staged.now) none.none
