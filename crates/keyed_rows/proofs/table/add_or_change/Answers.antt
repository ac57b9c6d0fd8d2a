use Rattle.keyed_rows.proofs.Words.{ap, sym, if_done, with_row}
use Rattle.keyed_rows.proofs.Writing.{writes_after}
use Rattle.keyed_rows.proofs.table.add_or_change.Goals as goal

pub returns-in-Ok-true-clause-writes : goal.returns-in-Ok-true-clause-writes
returns-in-Ok-true-clause-writes g c =
    let put = with_row g.T.Table.table c.args.row.now in
    let one = c.in-Err.ensures.writes in
    writes_after g.S.Store (if_done put) c.args.tx.now.conn.now c.add_fitting.new.tx.conn.now c.change.new.tx.conn.now c.in-Err.fault c.in-Ok-true.field-0 one.refused one.writes.kept one.writes.survives one.writes.never_foreign
    tt (λ _. put) (sym (ap (if_done put) c.in-Ok-true.field-0-test)) c.in-Ok-true.ensures.writes
