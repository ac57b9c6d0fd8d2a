use Rattle.books_schema.proofs.Words.{arith, codes, state, HasCleanDisk, on_ok_then}
use Rattle.books_schema.proofs.DropLemmas.{all_gone}
use Rattle.books_schema.proofs.DropTexts.{staged_by_gtin_dropped, reserved_by_gtin_dropped, shiplines_of_lot_dropped, orders_by_state_dropped}
use Rattle.books_schema.proofs.dropping.drop_indexes.Goals as goal

pub returns-clause-done : goal.returns-clause-done
returns-clause-done g c clean older base ours has =
    let s1 = state g.S.Store c.drop_index.new.tx.conn.now in
    let s2 = state g.S.Store c.drop_index-2.new.tx.conn.now in
    let s3 = state g.S.Store c.drop_index-3.new.tx.conn.now in
    let s4 = state g.S.Store c.drop_index-4.new.tx.conn.now in
    let clean3 : HasCleanDisk s3 = omega (arith, clean, c.drop_index-4.ensures.survives.clean) in
    let clean2 : HasCleanDisk s2 = omega (arith, clean3, c.drop_index-3.ensures.survives.clean) in
    let clean1 : HasCleanDisk s1 = omega (arith, clean2, c.drop_index-2.ensures.survives.clean) in
    let one = c.in_ok-drop_index.ensures.done clean1 older base (codes "staged_by_gtin") ours staged_by_gtin_dropped has in
    let two = c.in_ok-drop_index-2.ensures.done clean2 older base (codes "reserved_by_gtin") one.left reserved_by_gtin_dropped one.has in
    let three = c.in_ok-drop_index-3.ensures.done clean3 older base (codes "shiplines_of_lot") two.left shiplines_of_lot_dropped two.has in
    on_ok_then c.drop_index-4.result (c.drop_index-4.ensures.done clean older base (codes "orders_by_state") three.left orders_by_state_dropped three.has)
    (λ four. all_gone older base four.left s4 four.has (four.fewer _ (three.fewer _ (two.fewer _ one.gone)), (four.fewer _ (three.fewer _ two.gone), (four.fewer _ three.gone, (four.gone, tt)))))
