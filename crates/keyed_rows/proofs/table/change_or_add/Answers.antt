use Rattle.keyed_rows.proofs.Words.{ap, state, if_done, with_row}
use Rattle.keyed_rows.proofs.Writing.{tells}
use Rattle.keyed_rows.proofs.table.change_or_add.Goals as goal

pub returns-in-Ok-true-clause-writes : goal.returns-in-Ok-true-clause-writes
returns-in-Ok-true-clause-writes g c =
    let put = with_row g.T.Table.table c.args.row.now in
    tells (if_done put) (λ _. put) (state g.S.Store c.args.tx.now.conn.now) (state g.S.Store c.change.new.tx.conn.now) c.in-Ok-true.field-0 tt (ap (if_done put) c.in-Ok-true.field-0-test) c.in-Ok-true.ensures.writes.writes
