use Rattle.rows_in_memory.proofs.Words.{List, ℕ, ap, ◌∙◌, [], same_text, LotRow, with_keys}
use Rattle.rows_in_memory.proofs.NamesOnce.{names_once}
use Rattle.rows_in_memory.proofs.day_opening.items_of_lots.Goals as goal

pub returns : goal.returns
returns c =
    let item : LotRow → List ℕ = λ r. r.lot.gtin in
    let lots = c.args.lots.now in
    c.into_values.ensures ∙ c.in_ok-add_all.ensures.added c.new-list.ensures.keyed ∙ ap (with_keys same_text item lots) c.new-list.ensures.none ∙ names_once item lots []
