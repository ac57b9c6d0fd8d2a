use Rattle.keyed_rows.proofs.Words.{refl, rules, arith, err_from_is_err_and, bound, HasCleanDisk, CommitsShowing, state, survives_then}
use Rattle.keyed_rows.proofs.HandedSoFar.{none_handed, one_handed, all_handed, some_handed, read_fails, stop_handed, nothing_handed, fails_left}
use Rattle.keyed_rows.proofs.handing.each.Goals as goal

pub returns-in_err-rows-clause-handed : goal.returns-in_err-rows-clause-handed
returns-in_err-rows-clause-handed g c clean plain =
    let p = err_from_is_err_and c.from_residual.result c.from_residual.ensures.1 in
    rw (p.1, p.2) (nothing_handed g.T.Readable.has g.T.Readable.reads g.K.Sink.takes c.args.sql.now (bound c.args.params.now) (state g.S.Store c.args.conn.now) c.args.sink.now)

pub returns-in_err-rows-clause-left : goal.returns-in_err-rows-clause-left
returns-in_err-rows-clause-left g c clean plain =
    let p = err_from_is_err_and c.from_residual.result c.from_residual.ensures.1 in
    let refused = rw c.in_err-rows.was at c.query.follows.holds-at-none in
    rw (p.1, p.2) (fails_left c.args.sql.now (bound c.args.params.now) (state g.S.Store c.args.conn.now) (state g.S.Store c.query.follows.lender-at-none) _ plain (refused.err clean))

pub returns-in_err-row-clause-handed : goal.returns-in_err-row-clause-handed
returns-in_err-row-clause-handed g c clean plain =
    let p = err_from_is_err_and c.from_residual-in_err-row.result c.from_residual-in_err-row.ensures.1 in
    let moved = c.next.follows.holds-at-none in
    let late : HasCleanDisk (state g.S.Store c.next.follows.lender-at-none.conn.now) = search rules in
    let so_far = c.rows.invariant.3 (omega (arith, moved.survives.clean)) plain in
    rw (p.1, p.2)
    (some_handed g.S.Store g.T.Readable.has g.T.Readable.reads g.K.Sink.takes g.K.Sink.stops c.args.sql.now (bound c.args.params.now) c.args.conn.now plain c.rows.rows.conn.now c.args.sink.now c.rows.sink so_far)

pub returns-in_default-clause-handed : goal.returns-in_default-clause-handed
returns-in_default-clause-handed g c clean plain =
    let moved = c.next.follows.holds-at-none in
    let now = c.next.follows.lender-at-none.conn.now in
    let late : HasCleanDisk (state g.S.Store now) = search rules in
    let so_far = c.rows.invariant.3 (omega (arith, moved.survives.clean)) plain in
    let shown = (rw (c.in_ok-row.was, c.in_default.is) at (moved.ok late)) c.args.sql.now (bound c.args.params.now) so_far.rows so_far.given in
    let all = all_handed g.S.Store g.T.Readable.has g.T.Readable.reads g.K.Sink.takes g.K.Sink.stops c.args.sql.now (bound c.args.params.now) c.args.conn.now plain c.rows.rows.conn.now (state g.S.Store now) c.args.sink.now c.rows.sink so_far shown in
    search rules

pub returns-in_err-record-clause-handed : goal.returns-in_err-record-clause-handed
returns-in_err-record-clause-handed g c clean plain =
    let p = err_from_is_err_and c.from_residual-in_err-record.result c.from_residual-in_err-record.ensures.1 in
    let moved = c.next.follows.holds-at-none in
    let now = c.next.follows.lender-at-none.conn.now in
    let late : HasCleanDisk (state g.S.Store now) = search rules in
    let so_far = c.rows.invariant.3 (omega (arith, moved.survives.clean)) plain in
    let same = rw c.in_ok-row.was at (moved.same late) in
    let given = (rw (c.in_ok-row.was, c.in-Some.is) at (moved.ok late)) c.args.sql.now (bound c.args.params.now) so_far.rows so_far.given in
    rw (p.1, p.2)
    (read_fails g.S.Store g.T.Readable.has g.T.Readable.reads g.K.Sink.takes g.K.Sink.stops c.args.sql.now (bound c.args.params.now) c.args.conn.now plain c.rows.rows.conn.now now (state g.S.Store now) c.args.sink.now c.rows.sink
    c.in-Some.row.now _ so_far given same c.in_err-record.ensures.foreign)

pub returns-in_err-take-clause-handed : goal.returns-in_err-take-clause-handed
returns-in_err-take-clause-handed g c clean plain =
    let p = err_from_is_err_and c.from_residual-in_err-take.result c.from_residual-in_err-take.ensures.1 in
    let moved = c.next.follows.holds-at-none in
    let now = c.next.follows.lender-at-none.conn.now in
    let late : HasCleanDisk (state g.S.Store now) = search rules in
    let so_far = c.rows.invariant.3 (omega (arith, moved.survives.clean)) plain in
    let same = rw c.in_ok-row.was at (moved.same late) in
    let given = (rw (c.in_ok-row.was, c.in-Some.is) at (moved.ok late)) c.args.sql.now (bound c.args.params.now) so_far.rows so_far.given in
    rw (p.1, p.2)
    (stop_handed g.S.Store g.T.Readable.has g.T.Readable.reads g.K.Sink.takes g.K.Sink.stops c.args.sql.now (bound c.args.params.now) c.args.conn.now plain c.rows.rows.conn.now now c.args.sink.now c.rows.sink c.take.new.self
    c.in-Some.row.now c.in_ok-record.record so_far given same c.in_ok-record.ensures.ok.0 c.in_ok-record.ensures.ok.1 c.in_err-take.ensures.stopped)

pub rows-preserved : goal.rows-preserved
rows-preserved g c =
    let moved = c.next.follows.holds-at-none in
    let now = c.next.follows.lender-at-none.conn.now in
    let commits = CommitsShowing c.args.sql.now (bound c.args.params.now) (state g.S.Store c.args.conn.now) in (
      search rules,
      survives_then (state g.S.Store c.args.conn.now) (state g.S.Store c.rows.rows.conn.now) (state g.S.Store now) commits (λ _. ⊥) commits (λ _ db h. h) (λ _ db none. absurd none) c.rows.invariant.1 moved.survives,
      search rules,
      λ late plain.
          let so_far = c.rows.invariant.3 (omega (arith, moved.survives.clean)) plain in
          let same = rw c.in_ok-row.was at (moved.same late) in
          let given = (rw (c.in_ok-row.was, c.in-Some.is) at (moved.ok late)) c.args.sql.now (bound c.args.params.now) so_far.rows so_far.given in
          one_handed g.S.Store g.T.Readable.has g.T.Readable.reads g.K.Sink.takes g.K.Sink.stops c.args.sql.now (bound c.args.params.now) c.args.conn.now plain c.rows.rows.conn.now now c.args.sink.now c.rows.sink c.take.new.self
          c.in-Some.row.now c.in_ok-record.record so_far given same c.in_ok-record.ensures.ok.0 c.in_ok-record.ensures.ok.1 c.in_ok-take.ensures.taken,
    )

pub returns-clause-handed : goal.returns-clause-handed
returns-clause-handed g c clean plain =
    let late : HasCleanDisk (state g.S.Store c.rows.rows.conn.now) = search rules in
    rw c.too_big.ensures
    (some_handed g.S.Store g.T.Readable.has g.T.Readable.reads g.K.Sink.takes g.K.Sink.stops c.args.sql.now (bound c.args.params.now) c.args.conn.now plain c.rows.rows.conn.now c.args.sink.now c.rows.sink (c.rows.invariant.3 late plain))

pub rows-init : goal.rows-init
rows-init g c =
    let made = c.in_ok-rows.ensures in (
      refl,
      made.survives,
      made.mode,
      λ clean plain. none_handed g.S.Store g.T.Readable.has g.T.Readable.reads g.K.Sink.takes g.K.Sink.stops c.args.sql.now (bound c.args.params.now) c.args.conn.now plain c.in_ok-rows.rows.conn.now c.args.sink.now (made.begun clean),
    )
