use Rattle.views.proofs.Words.{arith, ap, ◌∙◌, ◌++◌, [], Option, cons_option, LotRow, BinLot, bin_lot_found}
use Rattle.views.proofs.ExpiringShown.{found_none, found_more, found_all}
use Rattle.views.proofs.bin_lots.lots_found.Goals as goal

pub loop-row-init : goal.loop-row-init
loop-row-init c = let a = c.args in found_none (bin_lot_found a.day a.bin.now a.rows.now a.stock.now a.recalls.now) a.page.now _ c.new-lots.ensures.items

pub loop-row-preserved : goal.loop-row-preserved
loop-row-preserved c =
    let a = c.args in
    let l = c.loop-row in
    let f : LotRow → Option BinLot = bin_lot_found a.day a.bin.now a.rows.now a.stock.now a.recalls.now in
    found_more f a.page.now l.row-index l.lots.items c.row-item.result c.push_found.new.lots.items c.loop-row-test.true l.invariant
    (c.in_ok-push_found.ensures ∙ ap (λ (x : Option BinLot). l.lots.items ++ cons_option x []) c.bin_lot-found.ensures ∙ ap (λ (r : LotRow). l.lots.items ++ cons_option (f r) []) c.row-item.is)

pub returns : goal.returns
returns c =
    let a = c.args in
    let l = c.loop-row in
    found_all (bin_lot_found a.day a.bin.now a.rows.now a.stock.now a.recalls.now) a.page.now l.row-index l.lots.items (omega arith) l.invariant
