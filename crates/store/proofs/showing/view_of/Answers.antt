use Rattle.store.proofs.Words.{subst, tables_of}
use Rattle.store.proofs.showing.view_of.Goals as goal

pub returns-in-Ok-Err-clause-shown : goal.returns-in-Ok-Err-clause-shown
returns-in-Ok-Err-clause-shown g c first acts history is_day read =
    let query = c.args.query.now in
    let found = rw c.in-Ok-Err.is at read in
    g.Q.Query.refused first acts query c.in-Ok-Err.why (subst (g.Q.Query.is_in query (tables_of first acts)) c.in-Ok-Err.field-0-is found)
