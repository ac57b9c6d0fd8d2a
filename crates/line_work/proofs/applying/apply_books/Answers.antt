use Rattle.line_work.proofs.Words.{sym, subst, state, HasCleanDisk, KeepsMore}
use Rattle.line_work.proofs.TakenIn.{keeps_more}
use Rattle.line_work.proofs.applying.apply_books.Goals as goal

pub returns-clause-applied : goal.returns-clause-applied
returns-clause-applied g c clean first acts history holds leaves =
    let done = c.apply_file-end in
    subst (λ h. KeepsMore g.S.Store first acts h) (sym c.close.ensures.same)
    (keeps_more g.S.Store first acts (g.F.FilesAt.bytes c.args.files.now c.args.name.now) _ _ done.result done.new.books history
    (done.ensures.applied (subst (λ h. HasCleanDisk (state g.S.Store h)) c.close.ensures.same clean) first acts history holds leaves))

pub returns-clause-told : goal.returns-clause-told
returns-clause-told g c clean first acts history holds leaves =
    let done = c.apply_file-end in
    (done.new.books, c.close.ensures.same, done.ensures.applied (subst (λ h. HasCleanDisk (state g.S.Store h)) c.close.ensures.same clean) first acts history holds leaves)
