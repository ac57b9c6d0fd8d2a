use Rattle.house.proofs.Words.{sym, subst, notice_shown, notice_text, Tells}
use Rattle.house.proofs.LotWriting.{stays_shown, told_at_once}
use Rattle.house.proofs.lot_texts.write_notice.Goals as goal

pub returns-in-Ok-clause-told : goal.returns-in-Ok-clause-told
returns-in-Ok-clause-told g c clean first acts history holds =
    let at = g.W.Write.contents in
    let shown = notice_shown first acts c.args.lot.now in
    let was = c.args.books.now in
    let books = c.notice.new.self in
    let told = c.in-Ok.ensures.shown clean first acts history holds in
    subst (Tells g.S.Store first acts notice_text shown was books (at c.args.out) (at c.recall_notice.new.out)) (sym c.text_end-end.ensures)
    (told_at_once g.S.Store first acts notice_text shown c.in-Ok.view c.recall_notice.result was books (at c.args.out) (at c.recall_notice.new.out) told.0 (stays_shown g.S.Store first acts was books c.in-Ok.ensures.survives clean told.1) c.recall_notice.ensures)
