use Rattle.books_schema.proofs.Words.{◌≡◌, ℤ, IfErr, sym, subst, state, HasCleanDisk, Survives, Foreign, if_err, IsReadyAs, HasDayIn, AreReadTyped, ComesTo, TellTables, Found}
use Rattle.books_schema.proofs.ready_connection.settle_found.Goals as goal

pub returns-in-Newest-clause-foreign : goal.returns-in-Newest-clause-foreign
returns-in-Newest-clause-foreign g c =
    let old = (state g.S.Store c.args.conn.now).now in
    subst (λ (f : Found). HasCleanDisk (state g.S.Store c.settle.new.conn) → IsReadyAs f old → IfErr c.settle.result (λ e. e ≡ Foreign → (day : ℤ) → HasDayIn f old.trees day → ¬ AreReadTyped f old.trees)) (sym c.in-Newest.is)
    (λ clean ready. if_err c.settle.result _ _ (c.settle.ensures.foreign clean ready) (λ e none is day has read. none is day has))

pub returns-in-Newest-clause-survives : goal.returns-in-Newest-clause-survives
returns-in-Newest-clause-survives g c =
    let old = (state g.S.Store c.args.conn.now).now in
    subst (λ (f : Found). Survives (state g.S.Store c.args.conn.now) (state g.S.Store c.settle.new.conn) (λ db. IsReadyAs f old → ComesTo f old.trees db × TellTables db)) (sym c.in-Newest.is) c.settle.ensures.survives
