use Rattle.store.proofs.Words.{[], Ok, Err, inl, refl, subst, arith, rules, w64, FitsSigned, to_z-of_z, err_from_is_err_and, HasCleanDisk, state, HandsOver}
use Rattle.store.proofs.ActsHanded.{act_rows_above, act_rows_above_own, above_stored}
use Rattle.store.proofs.HandedOn.{books_on, left_keeps, still_open, handed_all, handed_some, handed_none, never_commits_none, never_commits_on, left_stays, handed_stays}
use Rattle.store.proofs.act_rows.hand_acts_above.Goals as goal

pub returns-in_err-find_open_outside-clause-handed : goal.returns-in_err-find_open_outside-clause-handed
returns-in_err-find_open_outside-clause-handed g c clean first acts history held =
    let p = err_from_is_err_and c.from_residual.result c.from_residual.ensures.1 in
    rw (p.1, p.2, c.in_err-find_open_outside.ensures.fault)
    (let none = handed_none first acts g.K.Sink.takes g.K.Sink.stops [] c.args.sink.now (state g.S.Store c.args.conn.now) (state g.S.Store c.find_open_outside.new.conn) held (c.in_err-find_open_outside.ensures.failed clean) in
    (record { rows = []; stored = λ some. absurd (some refl); own = tt; handed = none.0 }, none.1))

pub returns-in_err-find_open_outside-clause-survives : goal.returns-in_err-find_open_outside-clause-survives
returns-in_err-find_open_outside-clause-survives g c =
    never_commits_none (state g.S.Store c.args.conn.now) (state g.S.Store c.find_open_outside.new.conn) c.find_open_outside.ensures.survives

pub returns-in-Ok-clause-handed : goal.returns-in-Ok-clause-handed
returns-in-Ok-clause-handed g c clean first acts history held =
    let old = state g.S.Store c.args.conn.now in
    let mid = state g.S.Store c.find_open_outside.new.conn in
    let new = state g.S.Store c.each_above.new.conn in
    let late : HasCleanDisk mid = omega (arith, clean, c.each_above.ensures.survives.clean) in
    let same = c.in_ok-find_open_outside.ensures.open late in
    let books = books_on first acts old mid held same in
    let rowid = c.rowid_of-rowid.result in
    let fits : FitsSigned w64 rowid = search rules in
    let rows = act_rows_above first acts mid books rowid in
    let stored = above_stored c.args.number old mid rowid c.rowid_of-rowid.ensures same.0.now_is in
    let handed = rw (to_z-of_z w64 rowid fits) at (c.in-Ok.ensures.handed clean books.ready books.rows.typed) in
    let all = handed_all first acts g.K.Sink.takes g.K.Sink.stops rows c.args.sink.now c.each_above.new.sink old mid new (left_keeps first acts old mid held (inl same)) handed (c.in-Ok.ensures.left clean books.ready) in
    (record { rows = rows; stored = λ _. (stored, same.0.was_open, (c.in-Ok.ensures.left clean books.ready).0.is_open); own = act_rows_above_own first acts mid books rowid; handed = all.0 }, all.1)

pub returns-in-Ok-clause-survives : goal.returns-in-Ok-clause-survives
returns-in-Ok-clause-survives g c =
    never_commits_on (state g.S.Store c.args.conn.now) (state g.S.Store c.find_open_outside.new.conn) (state g.S.Store c.each_above.new.conn) c.find_open_outside.ensures.survives c.each_above.ensures.survives (λ late. c.in_ok-find_open_outside.ensures.open late)

pub returns-in-Err-clause-handed : goal.returns-in-Err-clause-handed
returns-in-Err-clause-handed g c clean first acts history held =
    let old = state g.S.Store c.args.conn.now in
    let mid = state g.S.Store c.find_open_outside.new.conn in
    let new = state g.S.Store c.each_above.new.conn in
    let late : HasCleanDisk mid = omega (arith, clean, c.each_above.ensures.survives.clean) in
    let same = c.in_ok-find_open_outside.ensures.open late in
    let books = books_on first acts old mid held same in
    let rowid = c.rowid_of-rowid.result in
    let fits : FitsSigned w64 rowid = search rules in
    let rows = act_rows_above first acts mid books rowid in
    let stored = above_stored c.args.number old mid rowid c.rowid_of-rowid.ensures same.0.now_is in
    let handed =
    subst (λ z. HandsOver g.K.Sink.takes g.K.Sink.stops c.args.sink.now (act_rows_above first acts mid books z) c.each_above.new.sink (Err c.in-Err.fault)) (to_z-of_z w64 rowid fits) (c.in-Err.ensures.handed clean books.ready books.rows.typed) in
    let up = still_open g.K.Sink.takes g.K.Sink.stops rows c.args.sink.now c.each_above.new.sink mid new c.in-Err.fault handed (c.in-Err.ensures.left clean books.ready) in
    rw c.from.ensures
    (let some = handed_some first acts g.K.Sink.takes g.K.Sink.stops rows c.args.sink.now c.each_above.new.sink old mid new c.in-Err.fault (left_keeps first acts old mid held (inl same)) handed (c.in-Err.ensures.left clean books.ready) in
    (record { rows = rows; stored = λ other. (stored, same.0.was_open, up other); own = act_rows_above_own first acts mid books rowid; handed = some.0 }, some.1))

pub returns-in-Err-clause-survives : goal.returns-in-Err-clause-survives
returns-in-Err-clause-survives g c =
    never_commits_on (state g.S.Store c.args.conn.now) (state g.S.Store c.find_open_outside.new.conn) (state g.S.Store c.each_above.new.conn) c.find_open_outside.ensures.survives c.each_above.ensures.survives (λ late. c.in_ok-find_open_outside.ensures.open late)

pub returns-in_err-find_open_outside-clause-stays : goal.returns-in_err-find_open_outside-clause-stays
returns-in_err-find_open_outside-clause-stays g c clean at =
    left_stays (state g.S.Store c.args.conn.now) (state g.S.Store c.find_open_outside.new.conn) (c.in_err-find_open_outside.ensures.failed clean) at

pub returns-in-Ok-clause-stays : goal.returns-in-Ok-clause-stays
returns-in-Ok-clause-stays g c clean at =
    let old = state g.S.Store c.args.conn.now in
    let mid = state g.S.Store c.find_open_outside.new.conn in
    let new = state g.S.Store c.each_above.new.conn in
    let late : HasCleanDisk mid = omega (arith, clean, c.each_above.ensures.survives.clean) in
    handed_stays old mid new (Ok tt) at (c.in_ok-find_open_outside.ensures.open late) (c.in-Ok.ensures.left clean)

pub returns-in-Err-clause-stays : goal.returns-in-Err-clause-stays
returns-in-Err-clause-stays g c clean at =
    let old = state g.S.Store c.args.conn.now in
    let mid = state g.S.Store c.find_open_outside.new.conn in
    let new = state g.S.Store c.each_above.new.conn in
    let late : HasCleanDisk mid = omega (arith, clean, c.each_above.ensures.survives.clean) in
    handed_stays old mid new (Err c.in-Err.fault) at (c.in_ok-find_open_outside.ensures.open late) (c.in-Err.ensures.left clean)
