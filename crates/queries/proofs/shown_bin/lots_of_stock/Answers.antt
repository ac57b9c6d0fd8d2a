use Rattle.queries.proofs.Words.{ap, ◌∙◌, StockRow, is_lot, with_keys}
use Rattle.queries.proofs.shown_bin.lots_of_stock.Goals as goal

pub returns : goal.returns
returns c =
    let none = c.new-list.ensures in
    c.into_values.ensures ∙ c.in_ok-add_all.ensures.added none.keyed ∙ ap (with_keys is_lot (λ (r : StockRow). r.lot) c.args.stock.now) none.none
