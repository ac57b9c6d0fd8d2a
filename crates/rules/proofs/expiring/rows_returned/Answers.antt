use Rattle.rules.proofs.Words.{List, arith, ap, ◌∙◌, ◌++◌, LotRow, StockRow, gathered_all, gathered_more, row_returned}
use Rattle.rules.proofs.expiring.rows_returned.Goals as goal

pub loop-row-preserved : goal.loop-row-preserved
loop-row-preserved c =
    let a = c.args in
    let l = c.loop-row in
    let f : LotRow → List StockRow = λ k. row_returned a.stock.now a.staged.now k.lot in
    gathered_more f a.lots.now l.row-index l.put.items c.row-item.result c.extend_from_slice.new.self.items c.loop-row-test.true l.invariant
    (c.in_ok-extend_from_slice.ensures.items ∙ ap (λ ys. l.put.items ++ ys) (c.as_slice.ensures.value ∙ c.in_ok-own.ensures ∙ ap f c.row-item.is))

pub returns : goal.returns
returns c =
    let a = c.args in
    let l = c.loop-row in
    let f : LotRow → List StockRow = λ k. row_returned a.stock.now a.staged.now k.lot in
    gathered_all f a.lots.now l.row-index l.put.items (omega arith) l.invariant
