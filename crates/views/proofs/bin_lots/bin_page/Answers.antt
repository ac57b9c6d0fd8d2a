use Rattle.views.proofs.Words.{◌≡◌, ◌+◌, [], List, ap, ◌∙◌, filter, take, LotRow, StockRow, inserted, same_items, PAGE_MAX, first_by_item, is_in_bin_row}
use Rattle.views.proofs.BinPage.{bin_page_shown}
use Rattle.views.proofs.ByItem.{by_item_order}
use Rattle.views.proofs.bin_lots.bin_page.Goals as goal

pub first_in_order-requires : goal.first_in_order-requires
first_in_order-requires c = by_item_order

pub returns-clause-seen : goal.returns-clause-seen
returns-clause-seen c =
    let a = c.args in
    let lots : c.as_slice.result.now ≡ filter (is_in_bin_row a.bin.now a.seen a.stock.now) a.lots.now =
    c.as_slice.ensures.value ∙ c.in_ok-in_bin.ensures ∙ ap (λ (stock : List StockRow). filter (is_in_bin_row a.bin.now a.seen stock) a.lots.now) c.in_ok-by_cell.ensures in
    same_items c.first_in_order.result _ _ c.first_in_order.ensures (ap (λ (xs : List LotRow). take (PAGE_MAX + 1) (inserted first_by_item [] xs)) lots)

pub returns-clause-shown : goal.returns-clause-shown
returns-clause-shown c =
    let a = c.args in
    let lots : c.as_slice.result.now ≡ filter (is_in_bin_row a.bin.now a.seen a.stock.now) a.lots.now =
    c.as_slice.ensures.value ∙ c.in_ok-in_bin.ensures ∙ ap (λ (stock : List StockRow). filter (is_in_bin_row a.bin.now a.seen stock) a.lots.now) c.in_ok-by_cell.ensures in
    λ first acts last history is are.
    same_items c.first_in_order.result _ _ c.first_in_order.ensures
    (ap (λ (xs : List LotRow). take (PAGE_MAX + 1) (inserted first_by_item [] xs)) lots ∙ bin_page_shown first acts a.bin.now last a.seen is a.lots.now a.stock.now are)
