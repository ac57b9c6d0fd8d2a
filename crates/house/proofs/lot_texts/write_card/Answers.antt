use Rattle.house.proofs.Words.{refl, card_shown, card_text, card_start, card_from}
use Rattle.house.proofs.LotWriting.{stays_shown, told_whole, told_cut, card_with_head, card_whole}
use Rattle.house.proofs.lot_texts.write_card.Goals as goal

pub returns-in-Ok-start-clause-told : goal.returns-in-Ok-start-clause-told
returns-in-Ok-start-clause-told g c clean first acts history holds =
    let at = g.W.Write.contents in
    let l = c.args.lot.now in
    let was = c.args.books.now in
    let mid = c.card_head.new.self in
    let item = c.in-Ok.item in
    let expiry = c.in-Ok.expiry in
    let clean_mid = c.put_card.ensures.clean clean in
    let head = c.in-Ok.ensures.shown clean_mid first acts history holds in
    told_whole g.S.Store first acts card_text (card_shown first acts l) (card_from first acts l item expiry) (card_start item l.lot expiry) _ c.put_card.result.1 was mid c.put_card.new.books
    (at c.args.out) (at c.start.new.out) (at c.put_card.result.0) (card_with_head first acts l item expiry head.0) (card_whole first acts l item expiry c.in-Ok-start.text c.in-Ok-start.ensures.none)
    (stays_shown g.S.Store first acts was mid c.in-Ok.ensures.survives clean_mid head.1) c.in-Ok-start.ensures.written (c.put_card.ensures.put clean first acts history head.1)

pub returns-in-Err-start-clause-told : goal.returns-in-Err-start-clause-told
returns-in-Err-start-clause-told g c clean first acts history holds =
    let at = g.W.Write.contents in
    let l = c.args.lot.now in
    let was = c.args.books.now in
    let mid = c.card_head.new.self in
    let item = c.in-Ok.item in
    let expiry = c.in-Ok.expiry in
    let head = c.in-Ok.ensures.shown clean first acts history holds in
    told_cut g.S.Store first acts card_text (card_shown first acts l) (card_from first acts l item expiry) (card_start item l.lot expiry) _ was mid (at c.args.out) (at c.start.new.out)
    (card_with_head first acts l item expiry head.0) (card_whole first acts l item expiry 0 refl) (stays_shown g.S.Store first acts was mid c.in-Ok.ensures.survives clean head.1) c.in-Err-start.ensures.written
