use Rattle.books_schema.proofs.Words.{inl, inr, sym, subst, arith, Database, state, HasCleanDisk, SCHEMA_VERSION, IsReady, kept_then, if_ok, if_err, on_ok_then, HasDayAt, THIRD}
use Rattle.books_schema.proofs.SettleLemmas.{day_of_row, kept_numbers, numbers_after}
use Rattle.books_schema.proofs.settling.stored_day.Goals as goal

pub returns-in-Ok-clause-day : goal.returns-in-Ok-clause-day
returns-in-Ok-clause-day g c clean ready = inl (day_of_row SCHEMA_VERSION _ c.in-Ok.row (c.in-Ok.ensures.row clean ready))

pub returns-in-Ok-clause-done : goal.returns-in-Ok-clause-done
returns-in-Ok-clause-done g c clean ready = kept_numbers (state g.S.Store c.args.tx.now.conn.now) (state g.S.Store c.meta_row_at.new.tx.conn.now) c.in-Ok.row ready (c.in-Ok.ensures.row clean ready) (c.in-Ok.ensures.same clean ready)

pub returns-in-Err-Foreign-clause-day : goal.returns-in-Err-Foreign-clause-day
returns-in-Err-Foreign-clause-day g c clean ready =
    let mid = state g.S.Store c.meta_row_at.new.tx.conn.now in
    let was : HasCleanDisk mid = omega (arith, clean, c.raised_day.ensures.survives.clean) in
    let same = c.in-Err-Foreign.ensures.still was ready c.in-Err-Foreign.field-0-is in
    if_ok c.raised_day.result _ _ (c.raised_day.ensures.day clean (subst IsReady (sym same.0.now_is) ready)) (λ day has. inr (subst (λ (d : Database). HasDayAt THIRD d.trees day) same.0.now_is has))

pub returns-in-Err-Foreign-clause-done : goal.returns-in-Err-Foreign-clause-done
returns-in-Err-Foreign-clause-done g c clean ready =
    let old = state g.S.Store c.args.tx.now.conn.now in
    let mid = state g.S.Store c.meta_row_at.new.tx.conn.now in
    let was : HasCleanDisk mid = omega (arith, clean, c.raised_day.ensures.survives.clean) in
    let same = c.in-Err-Foreign.ensures.still was ready c.in-Err-Foreign.field-0-is in
    on_ok_then c.raised_day.result (c.raised_day.ensures.done clean (subst IsReady (sym same.0.now_is) ready)) (numbers_after old mid (state g.S.Store c.raised_day.new.tx.conn.now) same)

pub returns-in-Err-Foreign-clause-foreign : goal.returns-in-Err-Foreign-clause-foreign
returns-in-Err-Foreign-clause-foreign g c clean ready =
    let mid = state g.S.Store c.meta_row_at.new.tx.conn.now in
    let was : HasCleanDisk mid = omega (arith, clean, c.raised_day.ensures.survives.clean) in
    let same = c.in-Err-Foreign.ensures.still was ready c.in-Err-Foreign.field-0-is in
    if_err c.raised_day.result _ _ (c.raised_day.ensures.foreign clean (subst IsReady (sym same.0.now_is) ready)) (λ e none is day has. elim has [
      | inl newest ↦ c.in-Err-Foreign.ensures.foreign was ready c.in-Err-Foreign.field-0-is day newest
      | inr third ↦ none is day (subst (λ (d : Database). HasDayAt THIRD d.trees day) (sym same.0.now_is) third)
    ])

pub returns-in-Err-Foreign-clause-kept : goal.returns-in-Err-Foreign-clause-kept
returns-in-Err-Foreign-clause-kept g c clean ready =
    let old = state g.S.Store c.args.tx.now.conn.now in
    let mid = state g.S.Store c.meta_row_at.new.tx.conn.now in
    let was : HasCleanDisk mid = omega (arith, clean, c.raised_day.ensures.survives.clean) in
    let same = c.in-Err-Foreign.ensures.still was ready c.in-Err-Foreign.field-0-is in
    kept_then old mid (state g.S.Store c.raised_day.new.tx.conn.now) (c.meta_row_at.ensures.kept was ready) (c.raised_day.ensures.kept clean (subst IsReady (sym same.0.now_is) ready))
