use Rattle.line_work.proofs.Words.{inl, inr, refl}
use Rattle.line_work.proofs.TakenIn.{unread, went_on}
use Rattle.line_work.proofs.applying.take_in.Goals as goal

pub returns-in-Ok-clause-taken : goal.returns-in-Ok-clause-taken
returns-in-Ok-clause-taken g c clean first acts history holds leaves =
    let done = c.apply_text in
    let made = c.in-Ok.ensures in
    let same = unread g.R.Read.remaining c.in-Ok.reader c.args.file made.capacity made.empty made.inner in
    inl (done.result, went_on g.S.Store first acts _ _ c.args.books.now done.new.books done.result same clean history holds leaves (done.ensures.applied clean first acts history holds) (done.ensures.every clean first acts history holds) (done.ensures.foreign clean first acts history holds) done.ensures.survives, c.apply_result.ensures)

pub returns-in-Err-clause-taken : goal.returns-in-Err-clause-taken
returns-in-Err-clause-taken g c clean first acts history holds leaves = inr (refl, record { holds = holds; leaves = leaves })
