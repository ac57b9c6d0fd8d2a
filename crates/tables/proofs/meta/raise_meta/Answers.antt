use Rattle.sqlite.specs.Held.{state}
use Rattle.tables.proofs.RaiseLemmas.{raised_some, raised_none, raised_typed}
use Rattle.tables.proofs.meta.raise_meta.Goals as goal

pub returns-in-Ok-clause-done : goal.returns-in-Ok-clause-done
returns-in-Ok-clause-done g c clean ready =
    raised_some c.args.row.now c.in-Ok.ensures.rule (state g.S.Store c.args.tx.now.conn.now) (state g.S.Store c.run.new.tx.conn.now) c.in-Ok.field-0 ready (c.in-Ok.ensures.ran.ran clean) c.in-Ok.field-0-test.1

pub returns-in-Ok-clause-typed : goal.returns-in-Ok-clause-typed
returns-in-Ok-clause-typed g c clean ready version own =
    raised_typed c.args.row.now c.in-Ok.ensures.rule (state g.S.Store c.args.tx.now.conn.now) (state g.S.Store c.run.new.tx.conn.now) c.in-Ok.field-0 ready (c.in-Ok.ensures.ran.ran clean) version own

pub returns-in-Ok-eq0-clause-foreign : goal.returns-in-Ok-eq0-clause-foreign
returns-in-Ok-eq0-clause-foreign g c clean ready is version =
    raised_none c.args.row.now c.in-Ok-eq0.ensures.rule (state g.S.Store c.args.tx.now.conn.now) (state g.S.Store c.run.new.tx.conn.now) c.in-Ok-eq0.field-0 ready (c.in-Ok-eq0.ensures.ran.ran clean) c.in-Ok-eq0.field-0-test version
