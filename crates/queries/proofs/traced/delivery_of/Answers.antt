use Rattle.queries.proofs.Words.{Some, ◌∙◌, and_both, is_name}
use Rattle.std.specs.Prelude.{unsigned_abs}
use Rattle.values.specs.Values.{is_line_no}
use Rattle.overviews.specs.declared.trace.Delivery.{Delivery}
use Rattle.queries.specs.Traced.{delivery_with}
use Rattle.queries.proofs.traced.delivery_of.Goals as goal

pub returns : goal.returns
returns c d tells =
    let two = and_both (is_name d.delivery) (is_line_no d.line) tells.1 in
    let note = c.as_bytes-note.ensures ∙ tells.0.2 in
    let delivery = c.delivery_named.ensures d.delivery d.line note two.0 in
    let line = c.line_named.ensures d.delivery d.line note two.0 two.1 in
    c.delivery_with.ensures
    ∙ (λ i. delivery_with c.args.card.now (delivery i) (line i))
    ∙ (λ i. Some (let r : Delivery = record { act = tells.0.0 i; day = tells.0.1 i; delivery = d.delivery; line = d.line; qty = unsigned_abs (tells.0.3 i) } in r))
