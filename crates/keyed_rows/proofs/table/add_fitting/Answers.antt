use Rattle.keyed_rows.proofs.Words.{state, with_row}
use Rattle.keyed_rows.proofs.Laws.{adds, were_typed}
use Rattle.keyed_rows.proofs.Writing.{ran_writes}
use Rattle.keyed_rows.proofs.table.add_fitting.Goals as goal

pub returns-in-Ok-clause-writes : goal.returns-in-Ok-clause-writes
returns-in-Ok-clause-writes g c =
    let d = g.T.Table.table in
    let h = rw c.add_text.ensures at c.in-Ok.ensures.ran in
    ran_writes g.S.Store d.add (d.cells c.args.row.now) c.args.tx.now.conn.now c.run.new.tx.conn.now c.in-Ok.field-0 tt (λ _. with_row d c.args.row.now) h
    (λ ready counts. adds d g.met.T.Table.laws c.args.row.now c.in-Ok.ensures.rule (state g.S.Store c.args.tx.now.conn.now) (state g.S.Store c.run.new.tx.conn.now) c.in-Ok.field-0 ready counts)

pub returns-in-Ok-clause-were_typed : goal.returns-in-Ok-clause-were_typed
returns-in-Ok-clause-were_typed g c clean ready =
    let d = g.T.Table.table in
    let h = rw c.add_text.ensures at c.in-Ok.ensures.ran in
    were_typed d g.met.T.Table.laws c.args.row.now (state g.S.Store c.args.tx.now.conn.now) (state g.S.Store c.run.new.tx.conn.now) c.in-Ok.field-0 ready (h.ran clean)
