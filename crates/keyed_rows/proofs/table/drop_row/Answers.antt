use Rattle.keyed_rows.proofs.Words.{state, without_row}
use Rattle.keyed_rows.proofs.Laws.{drops}
use Rattle.keyed_rows.proofs.Writing.{ran_writes}
use Rattle.keyed_rows.proofs.table.drop_row.Goals as goal

pub returns-in-Ok-clause-writes : goal.returns-in-Ok-clause-writes
returns-in-Ok-clause-writes g c =
    let d = g.T.Table.table in
    let h = rw (c.drop_text.ensures, c.keys.ensures, g.met.T.Losing.keyed.cells c.args.row.now) at c.in-Ok.ensures.ran in
    (ran_writes g.S.Store g.T.Losing.drop (d.key_cells (d.key c.args.row.now)) c.args.tx.now.conn.now c.run_with.new.tx.conn.now c.in-Ok.field-0 tt (λ _. without_row d (d.key c.args.row.now)) h
    (λ ready counts. drops d g.met.T.Table.laws g.T.Losing.drop g.met.T.Losing.drop_laws (d.key c.args.row.now) (state g.S.Store c.args.tx.now.conn.now) (state g.S.Store c.run_with.new.tx.conn.now) c.in-Ok.field-0 ready counts)).writes
