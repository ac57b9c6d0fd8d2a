use Rattle.books_schema.proofs.Words.{◌≡◌, ◌∙◌, ℤ, IfErr, rules, arith, sym, on_ok_weaker, Database, state, HasCleanDisk, Survives, IsReady, Foreign as ForeignTable, Store as TableStore, TellTables, HasDay, IsNumbered, Numbers}
use Rattle.books_schema.proofs.EndLemmas.{err_of, if_so, survives_of}
use Rattle.books_schema.proofs.OpenLemmas.{ready_tells}
use Rattle.books_schema.proofs.SettleLemmas.{begun_state, as_begun, as_old}
use Rattle.books_schema.proofs.settling.settle.Goals as goal

pub returns-clause-survives : goal.returns-clause-survives
returns-clause-survives g c =
    let old = c.args.conn.now in
    let begun = c.transaction-tx.result.conn.now in
    let last = state g.S.Store c.stored_day-day.new.tx.conn.now in
    let new = state g.S.Store c.finish.new.tx.0 in
    let whole : Survives (state g.S.Store old) new (λ db. IsReady (state g.S.Store old).now → IsNumbered (state g.S.Store old).now.trees db × TellTables db) =
    survives_of c.stored_day-day.result (state g.S.Store old) (state g.S.Store begun) last new _ (begun_state g.S.Store old begun c.transaction-tx.ensures.begun) c.stored_day-day.ensures.survives c.finish.ensures.survives (λ clean.
    let was : HasCleanDisk last = omega (arith, clean, c.finish.ensures.survives.clean) in
    if_so _ c.stored_day-day.result (λ ready. on_ok_weaker c.stored_day-day.result
    (λ (done : Numbers (state g.S.Store begun) last). (as_begun g.S.Store old begun (λ (d : Database). IsNumbered d.trees last.now.trees) c.transaction-tx.ensures.begun done.comes, ready_tells last.now done.ready))
    (c.stored_day-day.ensures.done was (as_old g.S.Store old begun IsReady c.transaction-tx.ensures.begun ready)))) in
    search (rules, whole)

pub returns-clause-foreign : goal.returns-clause-foreign
returns-clause-foreign g c =
    let old = c.args.conn.now in
    let begun = c.transaction-tx.result.conn.now in
    let last = state g.S.Store c.stored_day-day.new.tx.conn.now in
    let new = state g.S.Store c.finish.new.tx.0 in
    let whole : HasCleanDisk new → IsReady (state g.S.Store old).now → IfErr c.finish.result (λ e. e ≡ ForeignTable → (day : ℤ) → ¬ HasDay (state g.S.Store old).now.trees day) = λ clean ready.
    let was : HasCleanDisk last = omega (arith, clean, c.finish.ensures.survives.clean) in
    err_of (λ cause e. e ≡ TableStore cause) c.stored_day-day.result c.finish.result last new (λ e. e ≡ ForeignTable → (day : ℤ) → ¬ HasDay (state g.S.Store old).now.trees day) c.finish.ensures.ends
    (λ cause e is foreign. absurd (let no : TableStore cause ≡ ForeignTable = sym is ∙ foreign in cc))
    (as_begun g.S.Store old begun (λ (d : Database). IfErr c.stored_day-day.result (λ e. e ≡ ForeignTable → (day : ℤ) → ¬ HasDay d.trees day)) c.transaction-tx.ensures.begun
    (c.stored_day-day.ensures.foreign was (as_old g.S.Store old begun IsReady c.transaction-tx.ensures.begun ready))) in
    search (rules, whole)
