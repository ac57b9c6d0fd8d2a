use Rattle.store.proofs.Words.{Ok, Err, inl, arith, sym, subst, err_from_is_err_and, HasCleanDisk, state, card_of_lot, AreCardLines, card_lines_of, Tables}
use Rattle.store.proofs.HandedOn.{books_on, left_keeps, handed_all, handed_some, handed_none, never_commits_none, never_commits_on, left_stays, handed_stays}
use Rattle.store.proofs.card_rows.hand_card.Goals as goal

pub returns-in_err-find_open_outside-clause-handed : goal.returns-in_err-find_open_outside-clause-handed
returns-in_err-find_open_outside-clause-handed g c clean first acts history held =
    let p = err_from_is_err_and c.from_residual.result c.from_residual.ensures.1 in
    rw (p.1, p.2, c.in_err-find_open_outside.ensures.fault)
    (handed_none first acts g.K.Sink.takes g.K.Sink.stops (card_of_lot first acts c.args.lot.now) c.args.sink.now (state g.S.Store c.args.conn.now) (state g.S.Store c.find_open_outside.new.conn) held (c.in_err-find_open_outside.ensures.failed clean))

pub returns-in_err-find_open_outside-clause-survives : goal.returns-in_err-find_open_outside-clause-survives
returns-in_err-find_open_outside-clause-survives g c =
    never_commits_none (state g.S.Store c.args.conn.now) (state g.S.Store c.find_open_outside.new.conn) c.find_open_outside.ensures.survives

pub returns-in-Ok-clause-handed : goal.returns-in-Ok-clause-handed
returns-in-Ok-clause-handed g c clean first acts history held =
    let l = c.args.lot.now in
    let old = state g.S.Store c.args.conn.now in
    let mid = state g.S.Store c.find_open_outside.new.conn in
    let new = state g.S.Store c.each_card.new.conn in
    let late : HasCleanDisk mid = omega (arith, clean, c.each_card.ensures.survives.clean) in
    let same = c.in_ok-find_open_outside.ensures.open late in
    let books = books_on first acts old mid held same in
    let lines = subst (λ (t : Tables). AreCardLines t l (card_of_lot first acts l)) (sym books.rows.tables) (card_lines_of first acts l) in
    handed_all first acts g.K.Sink.takes g.K.Sink.stops (card_of_lot first acts l) c.args.sink.now c.each_card.new.sink old mid new (left_keeps first acts old mid held (inl same))
    (c.in-Ok.ensures.handed clean books.ready books.rows.typed (card_of_lot first acts l) lines) (c.in-Ok.ensures.left clean books.ready)

pub returns-in-Ok-clause-survives : goal.returns-in-Ok-clause-survives
returns-in-Ok-clause-survives g c =
    never_commits_on (state g.S.Store c.args.conn.now) (state g.S.Store c.find_open_outside.new.conn) (state g.S.Store c.each_card.new.conn) c.find_open_outside.ensures.survives c.each_card.ensures.survives (λ late. c.in_ok-find_open_outside.ensures.open late)

pub returns-in-Err-clause-handed : goal.returns-in-Err-clause-handed
returns-in-Err-clause-handed g c clean first acts history held =
    let l = c.args.lot.now in
    let old = state g.S.Store c.args.conn.now in
    let mid = state g.S.Store c.find_open_outside.new.conn in
    let new = state g.S.Store c.each_card.new.conn in
    let late : HasCleanDisk mid = omega (arith, clean, c.each_card.ensures.survives.clean) in
    let same = c.in_ok-find_open_outside.ensures.open late in
    let books = books_on first acts old mid held same in
    let lines = subst (λ (t : Tables). AreCardLines t l (card_of_lot first acts l)) (sym books.rows.tables) (card_lines_of first acts l) in
    rw c.from.ensures
    (handed_some first acts g.K.Sink.takes g.K.Sink.stops (card_of_lot first acts l) c.args.sink.now c.each_card.new.sink old mid new c.in-Err.fault (left_keeps first acts old mid held (inl same))
    (c.in-Err.ensures.handed clean books.ready books.rows.typed (card_of_lot first acts l) lines) (c.in-Err.ensures.left clean books.ready))

pub returns-in-Err-clause-survives : goal.returns-in-Err-clause-survives
returns-in-Err-clause-survives g c =
    never_commits_on (state g.S.Store c.args.conn.now) (state g.S.Store c.find_open_outside.new.conn) (state g.S.Store c.each_card.new.conn) c.find_open_outside.ensures.survives c.each_card.ensures.survives (λ late. c.in_ok-find_open_outside.ensures.open late)

pub returns-in_err-find_open_outside-clause-stays : goal.returns-in_err-find_open_outside-clause-stays
returns-in_err-find_open_outside-clause-stays g c clean at =
    left_stays (state g.S.Store c.args.conn.now) (state g.S.Store c.find_open_outside.new.conn) (c.in_err-find_open_outside.ensures.failed clean) at

pub returns-in-Ok-clause-stays : goal.returns-in-Ok-clause-stays
returns-in-Ok-clause-stays g c clean at =
    let old = state g.S.Store c.args.conn.now in
    let mid = state g.S.Store c.find_open_outside.new.conn in
    let new = state g.S.Store c.each_card.new.conn in
    let late : HasCleanDisk mid = omega (arith, clean, c.each_card.ensures.survives.clean) in
    handed_stays old mid new (Ok tt) at (c.in_ok-find_open_outside.ensures.open late) (c.in-Ok.ensures.left clean)

pub returns-in-Err-clause-stays : goal.returns-in-Err-clause-stays
returns-in-Err-clause-stays g c clean at =
    let old = state g.S.Store c.args.conn.now in
    let mid = state g.S.Store c.find_open_outside.new.conn in
    let new = state g.S.Store c.each_card.new.conn in
    let late : HasCleanDisk mid = omega (arith, clean, c.each_card.ensures.survives.clean) in
    handed_stays old mid new (Err c.in-Err.fault) at (c.in_ok-find_open_outside.ensures.open late) (c.in-Err.ensures.left clean)
