use Rattle.books_schema.proofs.Words.{◌≡◌, true, false, ℤ, Result, ◌∙◌, OnOk, OnErr, IfErr, IsTrue, rules, arith, sym, subst, on_ok_weaker, Database, state, State, HasCleanDisk, Shows, IsRolledBack, KeepsCommit, Survives, Trees, IsReady, TableFault, Foreign as ForeignTable, Store as TableStore, put_back, AreFillersTyped, IsOlderReady, IsBrought, IsWritten, Ends, number, TellTables, HasDayAt, OlderBooks}
use Rattle.books_schema.proofs.EndLemmas.{err_of, whole_of, undone_of, if_so, survives_of}
use Rattle.books_schema.proofs.OpenLemmas.{ready_tells}
use Rattle.books_schema.proofs.BringLemmas.{begins_older}
use Rattle.books_schema.proofs.SettleLemmas.{begun_state}
use Rattle.books_schema.proofs.migration.bring_up.Goals as goal

module _ (older : OlderBooks) (base : Trees) (done r : Result ℤ TableFault) (last new : State) (ends : Ends (λ cause e. e ≡ TableStore cause) done r last new) (clean : HasCleanDisk new) (filled : OnOk done (IsWritten older base last)) where
  brought_whole : OnOk r (IsReady new.now × IsBrought older base new.now.trees)
  brought_whole = whole_of (λ cause e. e ≡ TableStore cause) done r last new ends clean (λ (it : IsWritten older base last) (shows : Shows last new last.now last.now false). (
    subst IsReady (sym shows.now_is) it.ready,
    subst (λ (d : Database). IsBrought older base d.trees) (sym shows.now_is) it.brought,
  )) filled

  brought_back : (old begun : State) → begun ≡ record old { in_transaction = true } → KeepsCommit begun last → old.now ≡ old.committed → IsTrue new.is_open → OnErr r ((new.now ≡ old.now) × (new.committed ≡ old.now))
  brought_back old begun is kept settled up = undone_of (λ cause e. e ≡ TableStore cause) done r last new ends clean (λ (it : IsWritten older base last). it.inside) (λ (undone : IsRolledBack last new).
      let back = put_back old begun last new is kept undone (λ _. settled) up in
      (back, (undone.undone up).1 ∙ sym (undone.undone up).0 ∙ back)) filled

pub returns-clause-survives : goal.returns-clause-survives
returns-clause-survives g c =
    let old = c.args.conn.now in
    let begun = c.transaction-tx.result.conn.now in
    let last = state g.S.Store c.bring-day.new.tx.conn.now in
    let new = state g.S.Store c.finish.new.tx.0 in
    let base = (state g.S.Store old).now.trees in
    let whole : Survives (state g.S.Store old) new (λ db. IsOlderReady c.args.older (state g.S.Store old).now → IsBrought c.args.older base db × TellTables db) =
    survives_of c.bring-day.result (state g.S.Store old) (state g.S.Store begun) last new _ (begun_state g.S.Store old begun c.transaction-tx.ensures.begun) c.bring-day.ensures.survives c.finish.ensures.survives (λ clean.
    let was : HasCleanDisk last = omega (arith, clean, c.finish.ensures.survives.clean) in
    if_so _ c.bring-day.result (λ ready. on_ok_weaker c.bring-day.result (λ (done : IsWritten c.args.older base last). (done.brought, ready_tells last.now done.ready))
    (c.bring-day.ensures.done was base (begins_older g.S.Store old begun c.args.older c.transaction-tx.ensures.begun ready)))) in
    search (rules, whole)

pub returns-clause-foreign : goal.returns-clause-foreign
returns-clause-foreign g c =
    let old = c.args.conn.now in
    let begun = c.transaction-tx.result.conn.now in
    let last = state g.S.Store c.bring-day.new.tx.conn.now in
    let new = state g.S.Store c.finish.new.tx.0 in
    let base = (state g.S.Store old).now.trees in
    let whole : HasCleanDisk new → IsOlderReady c.args.older (state g.S.Store old).now → IfErr c.finish.result (λ e. e ≡ ForeignTable → (day : ℤ) → HasDayAt (number c.args.older) base day → ¬ AreFillersTyped c.args.older base) = λ clean ready.
    let was : HasCleanDisk last = omega (arith, clean, c.finish.ensures.survives.clean) in
    err_of (λ cause e. e ≡ TableStore cause) c.bring-day.result c.finish.result last new (λ e. e ≡ ForeignTable → (day : ℤ) → HasDayAt (number c.args.older) base day → ¬ AreFillersTyped c.args.older base) c.finish.ensures.ends
    (λ cause e is foreign. absurd (let no : TableStore cause ≡ ForeignTable = sym is ∙ foreign in cc))
    (c.bring-day.ensures.foreign was base (begins_older g.S.Store old begun c.args.older c.transaction-tx.ensures.begun ready)) in
    search (rules, whole)

pub returns-clause-ready : goal.returns-clause-ready
returns-clause-ready g c =
    let old = c.args.conn.now in
    let begun = c.transaction-tx.result.conn.now in
    let last = state g.S.Store c.bring-day.new.tx.conn.now in
    let new = state g.S.Store c.finish.new.tx.0 in
    let base = (state g.S.Store old).now.trees in
    let whole : HasCleanDisk new → IsOlderReady c.args.older (state g.S.Store old).now → OnOk c.finish.result (IsReady new.now) = λ clean ready.
    let was : HasCleanDisk last = omega (arith, clean, c.finish.ensures.survives.clean) in
    let done = c.bring-day.ensures.done was base (begins_older g.S.Store old begun c.args.older c.transaction-tx.ensures.begun ready) in
    on_ok_weaker c.finish.result (λ (it : IsReady new.now × IsBrought c.args.older base new.now.trees). it.0) (brought_whole c.args.older base c.bring-day.result c.finish.result last new c.finish.ensures.ends clean done) in
    let same : c.finish.new.tx.0 ≡ c.conn-1.given.0 = search rules in
    subst (λ h. HasCleanDisk (state g.S.Store h) → IsOlderReady c.args.older (state g.S.Store old).now → OnOk c.finish.result (IsReady (state g.S.Store h).now)) same whole

pub returns-clause-brought : goal.returns-clause-brought
returns-clause-brought g c =
    let old = c.args.conn.now in
    let begun = c.transaction-tx.result.conn.now in
    let last = state g.S.Store c.bring-day.new.tx.conn.now in
    let new = state g.S.Store c.finish.new.tx.0 in
    let base = (state g.S.Store old).now.trees in
    let whole : HasCleanDisk new → IsOlderReady c.args.older (state g.S.Store old).now → OnOk c.finish.result (IsBrought c.args.older base new.now.trees) = λ clean ready.
    let was : HasCleanDisk last = omega (arith, clean, c.finish.ensures.survives.clean) in
    let done = c.bring-day.ensures.done was base (begins_older g.S.Store old begun c.args.older c.transaction-tx.ensures.begun ready) in
    on_ok_weaker c.finish.result (λ (it : IsReady new.now × IsBrought c.args.older base new.now.trees). it.1) (brought_whole c.args.older base c.bring-day.result c.finish.result last new c.finish.ensures.ends clean done) in
    search (rules, whole)

pub returns-clause-failed : goal.returns-clause-failed
returns-clause-failed g c =
    let old = c.args.conn.now in
    let begun = c.transaction-tx.result.conn.now in
    let last = state g.S.Store c.bring-day.new.tx.conn.now in
    let new = state g.S.Store c.finish.new.tx.0 in
    let base = (state g.S.Store old).now.trees in
    let whole : HasCleanDisk new → IsOlderReady c.args.older (state g.S.Store old).now → (state g.S.Store old).now ≡ (state g.S.Store old).committed → IsTrue new.is_open → OnErr c.finish.result ((new.now ≡ (state g.S.Store old).now) × (new.committed ≡ (state g.S.Store old).now)) = λ clean ready settled up.
    let was : HasCleanDisk last = omega (arith, clean, c.finish.ensures.survives.clean) in
    let books = begins_older g.S.Store old begun c.args.older c.transaction-tx.ensures.begun ready in
    brought_back c.args.older base c.bring-day.result c.finish.result last new c.finish.ensures.ends clean (c.bring-day.ensures.done was base books)
    (state g.S.Store old) (state g.S.Store begun) (begun_state g.S.Store old begun c.transaction-tx.ensures.begun) (c.bring-day.ensures.kept was base books) settled up in
    search (rules, whole)
