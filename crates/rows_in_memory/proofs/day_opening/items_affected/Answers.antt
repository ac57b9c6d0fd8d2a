use Rattle.rows_in_memory.proofs.Words.{List, ℕ, ap, ◌∙◌, [], same_text, LotRow, StagedRow, with_keys, items_of_lots}
use Rattle.rows_in_memory.proofs.NamesOnce.{names_once}
use Rattle.rows_in_memory.proofs.day_opening.items_affected.Goals as goal

pub returns : goal.returns
returns c =
    let item : LotRow → List ℕ = λ r. r.lot.gtin in
    let of_stage : StagedRow → List ℕ = λ r. r.lot.gtin in
    let lots = c.args.lots.now in
    let staged = c.args.staged.now in
    let first = c.in_ok-add_all.ensures.added c.new-list.ensures.keyed ∙ ap (with_keys same_text item lots) c.new-list.ensures.none ∙ names_once item lots [] in
    c.into_values.ensures ∙ c.in_ok-add_all-2.ensures.added (c.in_ok-add_all.ensures.keyed c.new-list.ensures.keyed)
    ∙ ap (with_keys same_text of_stage staged) first ∙ names_once of_stage staged (items_of_lots lots)
