use Rattle.sqlite.specs.Held.{state}
use Rattle.books_schema.proofs.SettleLemmas.{row_read, no_row, on_row, still_row}
use Rattle.books_schema.proofs.settling.meta_row_at.Goals as goal

pub returns-clause-row : goal.returns-clause-row
returns-clause-row g c clean ready =
    let read = c.meta_rows_at.ensures in
    row_read c.meta_rows_at.result (λ rows. rows.items) c.first_meta.result g.row.VERSION (state g.S.Store c.args.tx.now.conn.now).now.trees (read.rows clean ready) (read.typed clean ready) c.first_meta.ensures.row

pub returns-clause-foreign : goal.returns-clause-foreign
returns-clause-foreign g c clean ready =
    let read = c.meta_rows_at.ensures in
    no_row c.meta_rows_at.result (λ rows. rows.items) c.first_meta.result g.row.VERSION (state g.S.Store c.args.tx.now.conn.now).now.trees (read.rows clean ready) (read.foreign clean ready) c.first_meta.ensures.fault

pub returns-clause-same : goal.returns-clause-same
returns-clause-same g c clean ready = on_row _ c.meta_rows_at.result (λ rows. rows.items) c.first_meta.result (c.meta_rows_at.ensures.same clean ready) c.first_meta.ensures.row

pub returns-clause-still : goal.returns-clause-still
returns-clause-still g c clean ready =
    let read = c.meta_rows_at.ensures in
    still_row _ c.meta_rows_at.result (λ rows. rows.items) c.first_meta.result (read.same clean ready) (read.still clean ready) c.first_meta.ensures.fault
