use Rattle.service.proofs.Words.{sym, subst, state, HasCleanDisk, KeepsBooks}
use Rattle.service.proofs.Printing.{sheet_held}
use Rattle.service.proofs.books_lines.print_books.Goals as goal

pub returns-clause-printed : goal.returns-clause-printed
returns-clause-printed g c clean first acts history holds =
    let done = c.print_sheet-end in
    subst (λ h. KeepsBooks first acts (state g.S.Store h)) (sym c.close.ensures.same)
    (sheet_held g.S.Store first acts c.args.sheet c.args.lot.now c.args.books done.new.books _ _ done.result
    (done.ensures.printed (subst (λ h. HasCleanDisk (state g.S.Store h)) c.close.ensures.same clean) first acts history holds)).keeps

pub returns-clause-told : goal.returns-clause-told
returns-clause-told g c clean first acts history holds =
    let done = c.print_sheet-end in
    (c.args.books, done.new.books, c.close.ensures.same, done.ensures.printed (subst (λ h. HasCleanDisk (state g.S.Store h)) c.close.ensures.same clean) first acts history holds)
