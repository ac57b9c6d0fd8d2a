use Rattle.rows_in_memory.proofs.Words.{List, ℕ, ap, ◌∙◌, option_to_list, same_text, names_of, OrderLine, with_keys}
use Rattle.rows_in_memory.proofs.NamesOnce.{names_once}
use Rattle.rows_in_memory.proofs.command_names.named_items.Goals as goal

pub returns-clause-items : goal.returns-clause-items
returns-clause-items c =
    let told = names_of c.args.command.now in
    let item : OrderLine → List ℕ = λ l. l.gtin in
    c.in_ok-add_all.ensures.added c.in_ok-list.ensures.keyed
    ∙ ap (λ (ls : List OrderLine). with_keys same_text item ls c.in_ok-list.list.values.items) c.names-names.ensures.lines
    ∙ ap (with_keys same_text item told.lines) (c.in_ok-list.ensures.items ∙ ap option_to_list c.names-names.ensures.item)
    ∙ names_once item told.lines (option_to_list told.item)
