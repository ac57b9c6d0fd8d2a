use Rattle.books_schema.proofs.Words.{Ok, Err, Result, OnOk, arith, state, HasCleanDisk}
use Rattle.books_schema.proofs.CreateLemmas.{filled, on_ok_then}
use Rattle.books_schema.proofs.creation.fill.Goals as goal

-- what holds whatever is answered
on_ok_so : {X E Q : Type 0} (r : Result X E) → Q → OnOk r Q
on_ok_so (Ok x) q = q
on_ok_so (Err e) q = tt

pub returns-clause-done : goal.returns-clause-done
returns-clause-done g c clean void =
    let made = state g.S.Store c.create_tables.new.tx.conn.now in
    let put = state g.S.Store c.put_meta.new.tx.conn.now in
    let last = state g.S.Store c.put_bin.new.tx.conn.now in
    let clean_put : HasCleanDisk put = omega (arith, clean, c.put_bin.ensures.survives.clean) in
    let clean_made : HasCleanDisk made = omega (arith, clean_put, c.in_ok-put_meta.ensures.survives.clean) in
    let none = c.in_ok-create_tables.ensures.done clean_made void in
    let first = c.in_ok-put_meta.ensures.done clean_put none.ready in
    on_ok_then c.put_bin.result (λ second. filled c.args.meta.now c.args.bin.now made put last none first second) (c.put_bin.ensures.done clean first.ready)

pub returns-clause-was_open : goal.returns-clause-was_open
returns-clause-was_open g c clean =
    let made = state g.S.Store c.create_tables.new.tx.conn.now in
    let put = state g.S.Store c.put_meta.new.tx.conn.now in
    let clean_put : HasCleanDisk put = omega (arith, clean, c.put_bin.ensures.survives.clean) in
    let clean_made : HasCleanDisk made = omega (arith, clean_put, c.in_ok-put_meta.ensures.survives.clean) in
    on_ok_so c.put_bin.result (c.in_ok-create_tables.ensures.was_open clean_made)
