use Rattle.slices.proofs.Words.{◌≡◌, true, Vec, Global, Err, state, typed_rows}
use Rattle.slices.proofs.ReadSteps.{read_of, never_foreign, fails_first}
use Rattle.slices.proofs.TypedRows.{typed_among}
use Rattle.slices.proofs.sought.seek_known.Goals as goal

pub returns-in_err-rows-clause-read : goal.returns-in_err-rows-clause-read
returns-in_err-rows-clause-read g c =
    let d = g.T.Table.table in
    let old = state g.S.Store c.args.tx.now.conn.now in
    let new = state g.S.Store c.seek.new.tx.conn.now in
    let one = c.in_err-rows.ensures.finds in
    fails_first c.from_residual-in_err-rows.ensures
    (read_of {X = Vec g.row.T-Row.Denot Global} (λ t rows. g.T.Sought.are_of c.args.by.now t rows.items) old new (Err c.in_err-rows.field-0.0) one.survives one.same one.kept one.rows
    (λ clean ready typed. never_foreign {X = Vec g.row.T-Row.Denot Global} (λ r. d.is r ≡ true) _ (Err c.in_err-rows.field-0.0) (typed_among (λ r. d.is r ≡ true) _ _ (typed_rows d g.met.T.Table.laws old.now.trees typed)) (one.foreign clean ready)))
