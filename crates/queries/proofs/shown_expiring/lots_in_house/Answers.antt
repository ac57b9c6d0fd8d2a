use Rattle.queries.proofs.Words.{◌≡◌, [], ap, ◌∙◌, StagedRow, StockRow, is_lot, with_keys}
use Rattle.queries.proofs.shown_expiring.lots_in_house.Goals as goal

pub returns : goal.returns
returns c =
    let none = c.new-list.ensures in
    let stock : c.add_all.new.self.values.items ≡ with_keys is_lot (λ (r : StockRow). r.lot) c.args.stock.now [] =
    c.in_ok-add_all.ensures.added none.keyed ∙ ap (with_keys is_lot (λ (r : StockRow). r.lot) c.args.stock.now) none.none in
    c.into_values.ensures ∙ c.in_ok-add_all-2.ensures.added (c.in_ok-add_all.ensures.keyed none.keyed) ∙ ap (with_keys is_lot (λ (r : StagedRow). r.lot) c.args.staged.now) stock
