use Rattle.books_schema.proofs.Words.{◌≡◌, ℤ, IfOk, IfErr, sym, subst, state, HasCleanDisk, IsReady, Foreign, number, HasRow, HasDayAt, OlderBooks}
use Rattle.books_schema.proofs.migration.stored_meta.Goals as goal

pub returns-in-First-clause-row : goal.returns-in-First-clause-row
returns-in-First-clause-row g c =
    let old = (state g.S.Store c.args.tx.now.conn.now).now in
    subst (λ (o : OlderBooks). HasCleanDisk (state g.S.Store c.meta_row_at.new.tx.conn.now) → IsReady old → IfOk c.meta_row_at.result (HasRow (number o) old.trees)) (sym c.in-First.is) c.meta_row_at.ensures.row

pub returns-in-First-clause-foreign : goal.returns-in-First-clause-foreign
returns-in-First-clause-foreign g c =
    let old = (state g.S.Store c.args.tx.now.conn.now).now in
    subst (λ (o : OlderBooks). HasCleanDisk (state g.S.Store c.meta_row_at.new.tx.conn.now) → IsReady old → IfErr c.meta_row_at.result (λ e. e ≡ Foreign → (day : ℤ) → ¬ HasDayAt (number o) old.trees day)) (sym c.in-First.is)
    c.meta_row_at.ensures.foreign

pub returns-in-Second-clause-row : goal.returns-in-Second-clause-row
returns-in-Second-clause-row g c =
    let old = (state g.S.Store c.args.tx.now.conn.now).now in
    subst (λ (o : OlderBooks). HasCleanDisk (state g.S.Store c.meta_row_at-in-Second.new.tx.conn.now) → IsReady old → IfOk c.meta_row_at-in-Second.result (HasRow (number o) old.trees)) (sym c.in-Second.is)
    c.meta_row_at-in-Second.ensures.row

pub returns-in-Second-clause-foreign : goal.returns-in-Second-clause-foreign
returns-in-Second-clause-foreign g c =
    let old = (state g.S.Store c.args.tx.now.conn.now).now in
    subst (λ (o : OlderBooks). HasCleanDisk (state g.S.Store c.meta_row_at-in-Second.new.tx.conn.now) → IsReady old → IfErr c.meta_row_at-in-Second.result (λ e. e ≡ Foreign → (day : ℤ) → ¬ HasDayAt (number o) old.trees day)) (sym c.in-Second.is)
    c.meta_row_at-in-Second.ensures.foreign
