use Rattle.slices.proofs.Words.{◌≡◌, true, state, typed_rows}
use Rattle.slices.proofs.ReadSteps.{read_of, never_foreign}
use Rattle.slices.proofs.TypedRows.{typed_among}
use Rattle.slices.proofs.sought_rows.read_rows.Goals as goal

pub returns-clause-read : goal.returns-clause-read
returns-clause-read g c =
    let d = g.T.Table.table in
    let old = state g.S.Store c.args.tx.now.conn.now in
    let one = c.seek.ensures.finds in
    read_of _ old (state g.S.Store c.seek.new.tx.conn.now) c.seek.result one.survives one.same one.kept one.rows
    (λ clean ready typed. never_foreign (λ r. d.is r ≡ true) _ c.seek.result (typed_among (λ r. d.is r ≡ true) _ _ (typed_rows d g.met.T.Table.laws old.now.trees typed)) (one.foreign clean ready))
