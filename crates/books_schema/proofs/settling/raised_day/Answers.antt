use Rattle.books_schema.proofs.Words.{◌≡◌, ℤ, IfErr, sym, subst, arith, state, HasCleanDisk, IsReady, Foreign, kept_then, same_error, HasDayAt, THIRD}
use Rattle.books_schema.proofs.SettleLemmas.{day_of_row, own_rows, raised_numbers, never_lost}
use Rattle.books_schema.proofs.settling.raised_day.Goals as goal

pub returns-clause-day : goal.returns-clause-day
returns-clause-day g c clean ready =
    let old = state g.S.Store c.args.tx.now.conn.now in
    let mid = state g.S.Store c.meta_row_at.new.tx.conn.now in
    let was : HasCleanDisk mid = omega (arith, clean, c.raise_meta.ensures.survives.clean) in
    day_of_row THIRD old.now.trees c.in_ok-row.row (c.in_ok-row.ensures.row was ready)

pub returns-clause-done : goal.returns-clause-done
returns-clause-done g c clean ready =
    let old = state g.S.Store c.args.tx.now.conn.now in
    let mid = state g.S.Store c.meta_row_at.new.tx.conn.now in
    let new = state g.S.Store c.raise_meta.new.tx.conn.now in
    let was : HasCleanDisk mid = omega (arith, clean, c.raise_meta.ensures.survives.clean) in
    let same = c.in_ok-row.ensures.same was ready in
    let again = subst IsReady (sym same.0.now_is) ready in
    let row = c.in_ok-row.ensures.row was ready in
    raised_numbers old mid new c.in_ok-row.row row same (c.in_ok-raise_meta.ensures.done clean again) (c.in_ok-raise_meta.ensures.typed clean again THIRD (own_rows THIRD old mid same row.typed))

pub returns-in_err-raise_meta-clause-foreign : goal.returns-in_err-raise_meta-clause-foreign
returns-in_err-raise_meta-clause-foreign g c clean ready =
    let old = state g.S.Store c.args.tx.now.conn.now in
    let mid = state g.S.Store c.meta_row_at.new.tx.conn.now in
    let was : HasCleanDisk mid = omega (arith, clean, c.raise_meta.ensures.survives.clean) in
    let same = c.in_ok-row.ensures.same was ready in
    let again = subst IsReady (sym same.0.now_is) ready in
    same_error c.from_residual-in_err-raise_meta.result c.in_err-raise_meta.field-0.0 c.from_residual-in_err-raise_meta.ensures (λ r. IfErr r (λ e. e ≡ Foreign → (day : ℤ) → ¬ HasDayAt THIRD old.now.trees day)) (λ is.
    never_lost old mid c.in_ok-row.row same (c.in_ok-row.ensures.row was ready) (c.in_err-raise_meta.ensures.foreign clean again is THIRD))

pub returns-clause-kept : goal.returns-clause-kept
returns-clause-kept g c clean ready =
    let old = state g.S.Store c.args.tx.now.conn.now in
    let mid = state g.S.Store c.meta_row_at.new.tx.conn.now in
    let new = state g.S.Store c.raise_meta.new.tx.conn.now in
    let was : HasCleanDisk mid = omega (arith, clean, c.raise_meta.ensures.survives.clean) in
    kept_then old mid new (c.in_ok-row.ensures.kept was ready) (c.raise_meta.ensures.kept clean)

pub returns-in_err-raise_meta-clause-kept : goal.returns-in_err-raise_meta-clause-kept
returns-in_err-raise_meta-clause-kept g c clean ready =
    let old = state g.S.Store c.args.tx.now.conn.now in
    let mid = state g.S.Store c.meta_row_at.new.tx.conn.now in
    let new = state g.S.Store c.raise_meta.new.tx.conn.now in
    let was : HasCleanDisk mid = omega (arith, clean, c.raise_meta.ensures.survives.clean) in
    kept_then old mid new (c.in_ok-row.ensures.kept was ready) (c.raise_meta.ensures.kept clean)
