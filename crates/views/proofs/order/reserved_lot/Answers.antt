use Rattle.views.proofs.Words.{◌∙◌, ◌&&◌, Bool, List, [], ap, find, map, same_text, ReservedRow, StockRow, is_lot, of_item, and_both, inserted, is_store_found, reserved_qty, filter_given, find_given, bin_before, bin_units, is_in_store}
use Rattle.views.proofs.order.reserved_lot.Goals as goal

pub returns : goal.returns
returns c =
    let m = c.args.found.now in
    let o = c.args.order.now in
    let row = c.args.lot.now in
    let l = row.lot in
    let own : ReservedRow → Bool = λ r. same_text o r.order && is_lot l r.lot in
    let found =
    find_given own (λ r. of_item l.gtin r.lot) (λ r e. (and_both (same_text l.gtin r.lot.gtin) (same_text l.lot r.lot.lot) (and_both (same_text o r.order) (is_lot l r.lot) e).1).0) c.candidates-reserved.result.now m.reserved
    c.candidates-reserved.ensures in
    let stock =
    filter_given (is_in_store m.bins l) (λ r. of_item l.gtin r.lot)
    (λ r e. (and_both (same_text l.gtin r.lot.gtin) (same_text l.lot r.lot.lot) (and_both (is_lot l r.lot) (is_store_found (find (λ b. same_text r.bin b.name) m.bins)) e).0).0) c.candidates-stock.result.now m.stock c.candidates-stock.ensures in
    let qty = c.reserved_units.ensures ∙ ap reserved_qty found in
    let bins = c.from_vec.ensures ∙ c.in_ok-units.ensures ∙ ap (λ (rows : List StockRow). inserted bin_before [] (map bin_units rows)) stock in
    (λ i. record { lot = l.lot; expiry = row.expiry; qty = qty i; bins = bins i })
