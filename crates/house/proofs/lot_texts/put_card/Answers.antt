use Rattle.house.proofs.Words.{subst, Ok, Err, flat_map, rest_after, card_of_lot, card_line, card_end, AddsCardLine, CutsCardLine, Writes, card_lined}
use Rattle.house.proofs.LotWriting.{put_part, put_whole, lines_put}
use Rattle.house.proofs.lot_texts.put_card.Goals as goal

pub returns-in-Ok-clause-put : goal.returns-in-Ok-clause-put
returns-in-Ok-clause-put g c clean first acts history holds =
    let at = g.W.Write.contents in
    let was = c.args.books.now in
    let books = c.each_card-handed.new.self in
    let after = c.each_card-handed.new.sink in
    let rows = card_of_lot first acts c.args.lot.now in
    let h = c.in-Ok.ensures.handed clean first acts history holds in
    let put = lines_put g.S.Store first acts (λ k. at k.out) card_line (AddsCardLine at) (CutsCardLine at) (λ _ _ _ w. w.written) (λ _ _ _ w. w.written) (Ok tt) rows _ after was books history c.in-Ok.ensures.survives clean holds h in
    put_whole g.S.Store first acts c.end.result c.text_end-end.result (flat_map card_line rows) (card_end (rest_after c.args.text rows)) was books (at c.args.out) (at after.out) (at c.end.new.out) put c.text_end-end.ensures
    (subst (λ n. Writes c.end.result (at after.out) (at c.end.new.out) (card_end n)) (card_lined at _ rows after h.0).1 c.end.ensures)

pub returns-in-Err-clause-put : goal.returns-in-Err-clause-put
returns-in-Err-clause-put g c clean first acts history holds =
    let at = g.W.Write.contents in
    let was = c.args.books.now in
    let books = c.each_card-handed.new.self in
    let after = c.each_card-handed.new.sink in
    let rows = card_of_lot first acts c.args.lot.now in
    let h = c.in-Err.ensures.handed clean first acts history holds in
    put_part g.S.Store first acts c.in-Err.fault (flat_map card_line rows) (card_end (rest_after c.args.text rows)) was books (at c.args.out) (at after.out)
    (lines_put g.S.Store first acts (λ k. at k.out) card_line (AddsCardLine at) (CutsCardLine at) (λ _ _ _ w. w.written) (λ _ _ _ w. w.written) (Err c.in-Err.fault) rows _ after was books history c.in-Err.ensures.survives clean holds h)
