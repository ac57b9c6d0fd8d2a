use Rattle.books_schema.proofs.Words.{◌≡◌, ℤ, IfErr, sym, subst, arith, Database, state, HasCleanDisk, unchanged_then, IsReady, kept_then, Foreign, same_error, AreFillersTyped, number, HasDayAt}
use Rattle.books_schema.proofs.BringLemmas.{same_filling}
use Rattle.books_schema.proofs.migration.read_old.Goals as goal

pub returns-clause-row : goal.returns-clause-row
returns-clause-row g c clean ready =
    let was : HasCleanDisk (state g.S.Store c.stored_meta.new.tx.conn.now) = omega (arith, clean, c.fillers.ensures.survives.clean) in
    c.in_ok-row.ensures.row was ready

pub returns-clause-fills : goal.returns-clause-fills
returns-clause-fills g c clean ready =
    let old = state g.S.Store c.args.tx.now.conn.now in
    let mid = state g.S.Store c.stored_meta.new.tx.conn.now in
    let was : HasCleanDisk mid = omega (arith, clean, c.fillers.ensures.survives.clean) in
    let same = c.in_ok-row.ensures.same was ready in
    same_filling c.args.older mid.now old.now c.in_ok-least.least.items (sym same.0.now_is) (c.in_ok-least.ensures.rows clean (subst IsReady (sym same.0.now_is) ready))

pub returns-clause-same : goal.returns-clause-same
returns-clause-same g c clean ready =
    let old = state g.S.Store c.args.tx.now.conn.now in
    let mid = state g.S.Store c.stored_meta.new.tx.conn.now in
    let new = state g.S.Store c.fillers.new.tx.conn.now in
    let was : HasCleanDisk mid = omega (arith, clean, c.fillers.ensures.survives.clean) in
    let same = c.in_ok-row.ensures.same was ready in
    unchanged_then old mid new same (c.in_ok-least.ensures.same clean (subst IsReady (sym same.0.now_is) ready) same.0.is_open)

pub returns-clause-kept : goal.returns-clause-kept
returns-clause-kept g c clean ready =
    let old = state g.S.Store c.args.tx.now.conn.now in
    let mid = state g.S.Store c.stored_meta.new.tx.conn.now in
    let new = state g.S.Store c.fillers.new.tx.conn.now in
    let was : HasCleanDisk mid = omega (arith, clean, c.fillers.ensures.survives.clean) in
    let same = c.in_ok-row.ensures.same was ready in
    kept_then old mid new (c.in_ok-row.ensures.kept was ready) (c.fillers.ensures.kept clean (subst IsReady (sym same.0.now_is) ready))

pub returns-in_err-least-clause-kept : goal.returns-in_err-least-clause-kept
returns-in_err-least-clause-kept g c clean ready =
    let old = state g.S.Store c.args.tx.now.conn.now in
    let mid = state g.S.Store c.stored_meta.new.tx.conn.now in
    let new = state g.S.Store c.fillers.new.tx.conn.now in
    let was : HasCleanDisk mid = omega (arith, clean, c.fillers.ensures.survives.clean) in
    let same = c.in_ok-row.ensures.same was ready in
    kept_then old mid new (c.in_ok-row.ensures.kept was ready) (c.fillers.ensures.kept clean (subst IsReady (sym same.0.now_is) ready))

pub returns-in_err-least-clause-foreign : goal.returns-in_err-least-clause-foreign
returns-in_err-least-clause-foreign g c clean ready =
    let older = c.args.older in
    let old = state g.S.Store c.args.tx.now.conn.now in
    let mid = state g.S.Store c.stored_meta.new.tx.conn.now in
    let was : HasCleanDisk mid = omega (arith, clean, c.fillers.ensures.survives.clean) in
    let same = c.in_ok-row.ensures.same was ready in
    same_error c.from_residual-in_err-least.result c.in_err-least.field-0.0 c.from_residual-in_err-least.ensures (λ r. IfErr r (λ e. e ≡ Foreign → (day : ℤ) → HasDayAt (number older) old.now.trees day → ¬ AreFillersTyped older old.now.trees)) (λ is day has typed.
    c.in_err-least.ensures.foreign clean (subst IsReady (sym same.0.now_is) ready) is (subst (λ (d : Database). AreFillersTyped older d.trees) (sym same.0.now_is) typed))
