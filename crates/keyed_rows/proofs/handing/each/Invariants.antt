use Rattle.keyed_rows.proofs.Words.{◌≡◌, false, bound, HasCleanDisk, Survives, CommitsShowing, IsPlain, understood, state}
use Rattle.keyed_rows.proofs.HandedSoFar.{HasHanded}
use Rattle.keyed_rows.proofs.handing.each.Given as goal

abbrev pub invariant-rows : goal.invariant-rows
invariant-rows g l =
    let now = l.rows.conn.now in
    (l.rows.conn.ghost_name ≡ l.initial.rows.conn.ghost_name) × Survives (state g.S.Store l.fn.conn) (state g.S.Store now) (CommitsShowing l.sql (bound l.params) (state g.S.Store l.fn.conn)) × (l.fn.conn.in_transaction ≡ false → now.in_transaction ≡ false)
    × (HasCleanDisk (state g.S.Store now) → IsPlain (understood l.fn.conn.schema l.sql) → HasHanded g.S.Store g.T.Readable.has g.T.Readable.reads g.K.Sink.takes l.sql (bound l.params) l.fn.conn now l.fn.sink l.sink)
