use Rattle.store.proofs.Words.{[], Ok, Err, inl, refl, ap, arith, err_from_is_err_and, HasCleanDisk, Database, state, repeats, typed_rows_of}
use Rattle.store.proofs.ActsHanded.{act_rows, act_rows_found, act_rows_own}
use Rattle.store.proofs.HandedOn.{books_on, left_keeps, still_open, handed_all, handed_some, handed_none, never_commits_none, never_commits_on, left_stays, handed_stays}
use Rattle.store.proofs.act_rows.hand_acts.Goals as goal

pub returns-in_err-find_open_outside-clause-handed : goal.returns-in_err-find_open_outside-clause-handed
returns-in_err-find_open_outside-clause-handed g c clean first acts history held =
    let p = err_from_is_err_and c.from_residual.result c.from_residual.ensures.1 in
    rw (p.1, p.2, c.in_err-find_open_outside.ensures.fault)
    (let none = handed_none first acts g.K.Sink.takes g.K.Sink.stops [] c.args.sink.now (state g.S.Store c.args.conn.now) (state g.S.Store c.find_open_outside.new.conn) held (c.in_err-find_open_outside.ensures.failed clean) in
    (record { rows = []; stored = λ some. absurd (some refl); own = tt; every = tt; handed = none.0 }, none.1))

pub returns-in_err-find_open_outside-clause-survives : goal.returns-in_err-find_open_outside-clause-survives
returns-in_err-find_open_outside-clause-survives g c =
    never_commits_none (state g.S.Store c.args.conn.now) (state g.S.Store c.find_open_outside.new.conn) c.find_open_outside.ensures.survives

pub returns-in-Ok-clause-handed : goal.returns-in-Ok-clause-handed
returns-in-Ok-clause-handed g c clean first acts history held =
    let old = state g.S.Store c.args.conn.now in
    let mid = state g.S.Store c.find_open_outside.new.conn in
    let new = state g.S.Store c.each_of_all.new.conn in
    let late : HasCleanDisk mid = omega (arith, clean, c.each_of_all.ensures.survives.clean) in
    let same = c.in_ok-find_open_outside.ensures.open late in
    let books = books_on first acts old mid held same in
    let rows = act_rows first acts mid books in
    let all = handed_all first acts g.K.Sink.takes g.K.Sink.stops rows c.args.sink.now c.each_of_all.new.sink old mid new (left_keeps first acts old mid held (inl same))
    (c.in-Ok.ensures.handed clean books.ready books.rows.typed) (c.in-Ok.ensures.left clean books.ready) in
    (record { rows = rows; stored = λ _. (ap (λ (db : Database). typed_rows_of repeats db.trees) same.0.now_is, same.0.was_open, (c.in-Ok.ensures.left clean books.ready).0.is_open); own = act_rows_own first acts mid books; every = act_rows_found first acts mid books; handed = all.0 }, all.1)

pub returns-in-Ok-clause-survives : goal.returns-in-Ok-clause-survives
returns-in-Ok-clause-survives g c =
    never_commits_on (state g.S.Store c.args.conn.now) (state g.S.Store c.find_open_outside.new.conn) (state g.S.Store c.each_of_all.new.conn) c.find_open_outside.ensures.survives c.each_of_all.ensures.survives (λ late. c.in_ok-find_open_outside.ensures.open late)

pub returns-in-Err-clause-handed : goal.returns-in-Err-clause-handed
returns-in-Err-clause-handed g c clean first acts history held =
    let old = state g.S.Store c.args.conn.now in
    let mid = state g.S.Store c.find_open_outside.new.conn in
    let new = state g.S.Store c.each_of_all.new.conn in
    let late : HasCleanDisk mid = omega (arith, clean, c.each_of_all.ensures.survives.clean) in
    let same = c.in_ok-find_open_outside.ensures.open late in
    let books = books_on first acts old mid held same in
    let rows = act_rows first acts mid books in
    let up = still_open g.K.Sink.takes g.K.Sink.stops rows c.args.sink.now c.each_of_all.new.sink mid new c.in-Err.fault (c.in-Err.ensures.handed clean books.ready books.rows.typed) (c.in-Err.ensures.left clean books.ready) in
    rw c.from.ensures
    (let some = handed_some first acts g.K.Sink.takes g.K.Sink.stops rows c.args.sink.now c.each_of_all.new.sink old mid new c.in-Err.fault (left_keeps first acts old mid held (inl same))
    (c.in-Err.ensures.handed clean books.ready books.rows.typed) (c.in-Err.ensures.left clean books.ready) in
    (record { rows = rows; stored = λ other. (ap (λ (db : Database). typed_rows_of repeats db.trees) same.0.now_is, same.0.was_open, up other); own = act_rows_own first acts mid books; every = tt; handed = some.0 }, some.1))

pub returns-in-Err-clause-survives : goal.returns-in-Err-clause-survives
returns-in-Err-clause-survives g c =
    never_commits_on (state g.S.Store c.args.conn.now) (state g.S.Store c.find_open_outside.new.conn) (state g.S.Store c.each_of_all.new.conn) c.find_open_outside.ensures.survives c.each_of_all.ensures.survives (λ late. c.in_ok-find_open_outside.ensures.open late)

pub returns-in_err-find_open_outside-clause-stays : goal.returns-in_err-find_open_outside-clause-stays
returns-in_err-find_open_outside-clause-stays g c clean at =
    left_stays (state g.S.Store c.args.conn.now) (state g.S.Store c.find_open_outside.new.conn) (c.in_err-find_open_outside.ensures.failed clean) at

pub returns-in-Ok-clause-stays : goal.returns-in-Ok-clause-stays
returns-in-Ok-clause-stays g c clean at =
    let old = state g.S.Store c.args.conn.now in
    let mid = state g.S.Store c.find_open_outside.new.conn in
    let new = state g.S.Store c.each_of_all.new.conn in
    let late : HasCleanDisk mid = omega (arith, clean, c.each_of_all.ensures.survives.clean) in
    handed_stays old mid new (Ok tt) at (c.in_ok-find_open_outside.ensures.open late) (c.in-Ok.ensures.left clean)

pub returns-in-Err-clause-stays : goal.returns-in-Err-clause-stays
returns-in-Err-clause-stays g c clean at =
    let old = state g.S.Store c.args.conn.now in
    let mid = state g.S.Store c.find_open_outside.new.conn in
    let new = state g.S.Store c.each_of_all.new.conn in
    let late : HasCleanDisk mid = omega (arith, clean, c.each_of_all.ensures.survives.clean) in
    handed_stays old mid new (Err c.in-Err.fault) at (c.in_ok-find_open_outside.ensures.open late) (c.in-Err.ensures.left clean)
