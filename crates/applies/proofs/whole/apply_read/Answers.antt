use Rattle.applies.proofs.Words.{refl, Err, subst, err_from_is_err_and, state, FitsLine, IsApplied, LeavesOneOf, GoesOn, Leaves}
use Rattle.applies.proofs.Texts.{told_weaker}
use Rattle.applies.proofs.Walked.{own_fault}
use Rattle.applies.proofs.WalkEnds.{then_left}
use Rattle.applies.proofs.Taken.{taken_of, taken_none_of}
use Rattle.applies.proofs.whole.apply_read.Goals as goal

pub returns-clause-applied : goal.returns-clause-applied
returns-clause-applied g c clean left first acts history holds read place =
    let b = c.in_ok-day.ensures.begun (c.apply_lines.ensures.clean clean) first acts history holds in
    let books = c.apply_lines.new.books in
    told_weaker left (λ text. GoesOn g.S.Store first c.in_ok-day.day acts text c.apply_lines.result books) (λ text. IsApplied g.S.Store first acts text c.apply_lines.result books)
    (c.apply_lines.ensures.applied clean left first c.in_ok-day.day acts history b.0 (record { done = refl; known = refl; last = refl; read = read; place = place }) refl)
    (λ text h. (c.in_ok-day.day, b.1, h))

pub returns-clause-survives : goal.returns-clause-survives
returns-clause-survives g c =
    then_left (state g.S.Store c.args.books.now.conn) (state g.S.Store c.find_begun.new.books.conn) (state g.S.Store c.apply_lines.new.books.conn) _ _ _ c.find_begun.ensures.survives c.apply_lines.ensures.survives
    (λ clean trees none left first acts history holds read place. absurd (none first acts history holds))
    (λ clean trees p left first acts history holds read place.
    let b = c.in_ok-day.ensures.begun (c.apply_lines.ensures.clean clean) first acts history holds in
    told_weaker left (λ text. Leaves first c.in_ok-day.day acts text trees) (λ text. LeavesOneOf first acts text trees)
    (p left first c.in_ok-day.day acts history b.0 (record { done = refl; known = refl; last = refl; read = read; place = place }) refl)
    (λ text l. (c.in_ok-day.day, b.1, l)))

pub returns-in_err-day-clause-applied : goal.returns-in_err-day-clause-applied
returns-in_err-day-clause-applied g c clean left first acts history holds read place =
    let b = c.in_err-day.ensures.begun clean first acts history holds in
    let books = c.find_begun.new.books in
    let (fault, is, same) = err_from_is_err_and c.from_residual.result c.from_residual.ensures.1 in
    rw is (rw same (told_weaker left (λ text. GoesOn g.S.Store first first acts text (Err c.in_err-day.field-0.0) books) (λ text. IsApplied g.S.Store first acts text (Err c.in_err-day.field-0.0) books)
    (own_fault g.S.Store g.R.Read.remaining left first first acts history books b.0 c.in_err-day.field-0.0 c.in_err-day.ensures.fault)
    (λ text h. (first, record { history = history; tables = refl }, h))))

pub returns-clause-every : goal.returns-clause-every
returns-clause-every g c clean left first acts history holds read place =
    let b = c.in_ok-day.ensures.begun (c.apply_lines.ensures.clean clean) first acts history holds in
    let fits = subst (λ l. FitsLine first acts l c.in_ok-day.day) c.as_slice.ensures.value (c.in_ok-day.ensures.fits (c.apply_lines.ensures.clean clean) first acts history holds) in
    taken_of g.S.Store left (g.R.Read.remaining c.args.reader) first acts c.in_ok-day.day c.args.place c.args.line.items c.apply_lines.result c.apply_lines.new.books history fits read place
    (c.apply_lines.ensures.applied clean left first c.in_ok-day.day acts history b.0 (record { done = refl; known = refl; last = refl; read = read; place = place }) refl)

pub returns-in_err-day-clause-every : goal.returns-in_err-day-clause-every
returns-in_err-day-clause-every g c clean left first acts history holds read place =
    let b = c.in_err-day.ensures.begun clean first acts history holds in
    let (fault, is, same) = err_from_is_err_and c.from_residual.result c.from_residual.ensures.1 in
    rw is (rw same (taken_none_of g.S.Store left first acts c.in_err-day.field-0.0 c.find_begun.new.books c.in_err-day.ensures.fault b.0))

pub returns-clause-foreign : goal.returns-clause-foreign
returns-clause-foreign g c clean left first acts history holds read place =
    let b = c.in_ok-day.ensures.begun (c.apply_lines.ensures.clean clean) first acts history holds in
    c.apply_lines.ensures.foreign clean left first acts history b.0 (record { done = refl; known = refl; last = refl; read = read; place = place })

pub returns-in_err-day-clause-foreign : goal.returns-in_err-day-clause-foreign
returns-in_err-day-clause-foreign g c clean left first acts history holds read place =
    let (fault, is, same) = err_from_is_err_and c.from_residual.result c.from_residual.ensures.1 in
    rw is (rw same (c.in_err-day.ensures.foreign clean first acts history holds))
