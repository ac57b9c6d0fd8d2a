use Rattle.service.proofs.Words.{subst, state, HasCleanDisk}
use Rattle.service.proofs.goods_file.import_books.Goals as goal

pub returns-clause-imported : goal.returns-clause-imported
returns-clause-imported g c clean first begun acts history holds leaves keeps =
    let done = c.import_named-end in
    (done.new.books, c.close.ensures.same, done.ensures.imported (subst (λ h. HasCleanDisk (state g.S.Store h)) c.close.ensures.same clean) first begun acts history holds leaves keeps)
