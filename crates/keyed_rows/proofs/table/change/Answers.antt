use Rattle.keyed_rows.proofs.Words.{true, false, state, if_done, with_row}
use Rattle.keyed_rows.proofs.Laws.{changes}
use Rattle.keyed_rows.proofs.Writing.{ran_writes}
use Rattle.keyed_rows.proofs.table.change.Goals as goal

pub returns-in-Ok-eq0-clause-writes : goal.returns-in-Ok-eq0-clause-writes
returns-in-Ok-eq0-clause-writes g c =
    let d = g.T.Table.table in
    let h = rw c.change_text.ensures at c.in-Ok-eq0.ensures.ran in
    ran_writes g.S.Store g.T.Changing.change.text (d.cells c.args.row.now) c.args.tx.now.conn.now c.run.new.tx.conn.now c.in-Ok-eq0.field-0 false (if_done (with_row d c.args.row.now)) h
    (λ ready counts. (changes d g.met.T.Table.laws g.T.Changing.change g.met.T.Changing.change_laws c.args.row.now c.in-Ok-eq0.ensures.rule (state g.S.Store c.args.tx.now.conn.now) (state g.S.Store c.run.new.tx.conn.now) c.in-Ok-eq0.field-0 ready counts).1 c.in-Ok-eq0.field-0-test)

pub returns-in-Ok-clause-writes : goal.returns-in-Ok-clause-writes
returns-in-Ok-clause-writes g c =
    let d = g.T.Table.table in
    let h = rw c.change_text.ensures at c.in-Ok.ensures.ran in
    ran_writes g.S.Store g.T.Changing.change.text (d.cells c.args.row.now) c.args.tx.now.conn.now c.run.new.tx.conn.now c.in-Ok.field-0 true (if_done (with_row d c.args.row.now)) h
    (λ ready counts. (changes d g.met.T.Table.laws g.T.Changing.change g.met.T.Changing.change_laws c.args.row.now c.in-Ok.ensures.rule (state g.S.Store c.args.tx.now.conn.now) (state g.S.Store c.run.new.tx.conn.now) c.in-Ok.field-0 ready counts).0 c.in-Ok.field-0-test.1)
