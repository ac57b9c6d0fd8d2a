use Rattle.queries.proofs.Words.{◌≡◌, true, state, typed_rows, recalls, recalls_laws, read_of, never_foreign}
use Rattle.queries.proofs.shown_figures.read_all_recalls.Goals as goal

pub returns-clause-read : goal.returns-clause-read
returns-clause-read g c =
    let old = state g.S.Store c.args.tx.now.conn.now in
    let one = c.all_rows.ensures.finds in
    read_of _ old (state g.S.Store c.all_rows.new.tx.conn.now) c.all_rows.result one.survives one.same one.kept one.rows
    (λ clean ready typed. never_foreign (λ r. recalls.is r ≡ true) (old.now.trees recalls.layout.tree) c.all_rows.result (typed_rows recalls recalls_laws old.now.trees typed) (one.foreign clean ready))
