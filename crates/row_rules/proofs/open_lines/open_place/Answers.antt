use Rattle.row_rules.proofs.Words.{Bool, ◌&&◌, ap, sym, ◌∙◌, list_any, take_rest, same_text, OrderRow, is_open_state}
use Rattle.row_rules.proofs.Searching.{any_behind, any_before}
use Rattle.row_rules.proofs.open_lines.open_place.Goals as goal

pub returns-in-Some : goal.returns-in-Some
returns-in-Some c =
    let test : OrderRow → Bool = λ r. same_text c.args.name.now r.order && is_open_state r.state in
    any_behind test c.args.orders.now c.min-from.result (ap (list_any test) (sym (take_rest c.args.orders.now c.min-from.result)) ∙ sym c.in-Some.ensures)

pub returns-in-None : goal.returns-in-None
returns-in-None c =
    let test : OrderRow → Bool = λ r. same_text c.args.name.now r.order && is_open_state r.state in
    c.first_open-in-None.ensures ∙ any_before test c.args.orders.now c.min-from.result (ap (list_any test) (sym (take_rest c.args.orders.now c.min-from.result)) ∙ sym c.in-None.ensures)
