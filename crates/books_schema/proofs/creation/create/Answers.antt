use Rattle.books_schema.proofs.Words.{◌≡◌, true, ◌∙◌, Ok, Err, Result, OnOk, OnErr, IsTrue, rules, arith, sym, on_ok_weaker, State, state, HasCleanDisk, IsRolledBack, Survives, Error, Store as TableStore, put_back, schema_0, Holds, first_rows, Ends, TellTables}
use Rattle.books_schema.proofs.CreateLemmas.{begins_void}
use Rattle.books_schema.proofs.EndLemmas.{rolled_back, undone_of, then_so, survives_of}
use Rattle.books_schema.proofs.OpenLemmas.{ready_tells}
use Rattle.books_schema.proofs.SettleLemmas.{begun_state}
use Rattle.books_schema.proofs.creation.create.Goals as goal

-- what was done is committed, or nothing is
settles : {T E : Type 0} (made : Error → E → Type 0) (done r : Result T E) (last new : State) {P : Type 0} → Ends made done r last new → HasCleanDisk new → (P → last.in_transaction ≡ true) → OnOk done P → IsTrue new.is_open → new.committed ≡ new.now
settles made (Ok x) (Ok y) last new ends clean inside h up = let shows = ends.1 clean in shows.committed_is ∙ sym shows.now_is
settles made (Ok x) (Err e) last new ends clean inside h up = let undone = (rolled_back last new ends.0 (inside h) (ends.2 clean)).undone up in undone.1 ∙ sym undone.0
settles made (Err e) r last new ends clean inside h up = let undone = (ends.1 clean).undone up in undone.1 ∙ sym undone.0

pub returns-clause-failed : goal.returns-clause-failed
returns-clause-failed g c =
    let old = c.args.conn.now in
    let begun = c.transaction-tx.result.conn.now in
    let last = state g.S.Store c.fill-filled.new.tx.conn.now in
    let new = state g.S.Store c.finish.new.tx.0 in
    let blank : (state g.S.Store old).now.schema ≡ schema_0 = sym c.schema.ensures.value ∙ c.is_empty_schema.ensures.0 c.if-not-is_empty_schema.false in
    let outside : IsTrue c.is_autocommit-outside.result = search (rules, c.is_autocommit-outside.ensures.value, c.requires.outside) in
    let whole : HasCleanDisk new → IsTrue new.is_open → OnErr c.finish.result (new.now ≡ (state g.S.Store old).now) = λ clean up.
    let was : HasCleanDisk last = omega (arith, clean, c.finish.ensures.survives.clean) in
    undone_of (λ cause e. e ≡ TableStore cause) c.fill-filled.result c.finish.result last new c.finish.ensures.ends clean (λ (it : Holds (first_rows c.args.meta.now c.args.bin.now) last). it.inside) (λ (undone : IsRolledBack last new).
    put_back (state g.S.Store old) (state g.S.Store begun) last new (begun_state g.S.Store old begun c.transaction-tx.ensures.begun) (c.fill-filled.ensures.kept was) undone (c.is_autocommit-outside.ensures.settled outside) up)
    (then_so (Holds (first_rows c.args.meta.now c.args.bin.now) last) c.fill-filled.result (c.fill-filled.ensures.was_open was) (λ (opened : IsTrue (state g.S.Store begun).is_open).
    c.fill-filled.ensures.done was (begins_void g.S.Store old begun c.transaction-tx.ensures.begun c.schema.ensures.live blank opened))) in
    search (rules, whole)

pub returns-clause-settled : goal.returns-clause-settled
returns-clause-settled g c =
    let old = c.args.conn.now in
    let begun = c.transaction-tx.result.conn.now in
    let last = state g.S.Store c.fill-filled.new.tx.conn.now in
    let new = state g.S.Store c.finish.new.tx.0 in
    let blank : (state g.S.Store old).now.schema ≡ schema_0 = sym c.schema.ensures.value ∙ c.is_empty_schema.ensures.0 c.if-not-is_empty_schema.false in
    let whole : HasCleanDisk new → IsTrue new.is_open → new.committed ≡ new.now = λ clean up.
    let was : HasCleanDisk last = omega (arith, clean, c.finish.ensures.survives.clean) in
    settles (λ cause e. e ≡ TableStore cause) c.fill-filled.result c.finish.result last new c.finish.ensures.ends clean (λ (it : Holds (first_rows c.args.meta.now c.args.bin.now) last). it.inside)
    (then_so (Holds (first_rows c.args.meta.now c.args.bin.now) last) c.fill-filled.result (c.fill-filled.ensures.was_open was) (λ (opened : IsTrue (state g.S.Store begun).is_open).
    c.fill-filled.ensures.done was (begins_void g.S.Store old begun c.transaction-tx.ensures.begun c.schema.ensures.live blank opened))) up in
    search (rules, whole)

pub returns-clause-tells : goal.returns-clause-tells
returns-clause-tells g c =
    let old = c.args.conn.now in
    let begun = c.transaction-tx.result.conn.now in
    let last = state g.S.Store c.fill-filled.new.tx.conn.now in
    let new = state g.S.Store c.finish.new.tx.0 in
    let blank : (state g.S.Store old).now.schema ≡ schema_0 = sym c.schema.ensures.value ∙ c.is_empty_schema.ensures.0 c.if-not-is_empty_schema.false in
    let whole : Survives (state g.S.Store old) new TellTables =
    survives_of c.fill-filled.result (state g.S.Store old) (state g.S.Store begun) last new TellTables (begun_state g.S.Store old begun c.transaction-tx.ensures.begun) c.fill-filled.ensures.survives c.finish.ensures.survives (λ clean.
    let was : HasCleanDisk last = omega (arith, clean, c.finish.ensures.survives.clean) in
    then_so (TellTables last.now.trees) c.fill-filled.result (c.fill-filled.ensures.was_open was) (λ (up : IsTrue (state g.S.Store begun).is_open).
    on_ok_weaker c.fill-filled.result (λ (done : Holds (first_rows c.args.meta.now c.args.bin.now) last). ready_tells last.now done.ready)
    (c.fill-filled.ensures.done was (begins_void g.S.Store old begun c.transaction-tx.ensures.begun c.schema.ensures.live blank up)))) in
    search (rules, whole)
