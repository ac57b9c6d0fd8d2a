use Rattle.rows_in_memory.proofs.Words.{ℕ, List, [], ap, ◌∙◌, same_text, LineRow, with_keys}
use Rattle.rows_in_memory.proofs.NamesOnce.{names_once}
use Rattle.rows_in_memory.proofs.order_names.orders_of_lines.Goals as goal

pub returns : goal.returns
returns c =
    let lines = c.args.lines.now in
    let order = λ (r : LineRow). r.order in
    let none = c.new-list.ensures in
    c.into_values.ensures ∙ c.in_ok-add_all.ensures.added none.keyed ∙ ap (λ (names : List (List ℕ)). with_keys same_text order lines names) none.none ∙ names_once order lines []
