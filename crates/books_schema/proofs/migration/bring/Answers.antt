use Rattle.books_schema.proofs.Words.{◌≡◌, ℤ, IfErr, sym, subst, arith, state, HasCleanDisk, kept_then, Foreign, same_error, AreFillersTyped, Fills, number, HasDayAt}
use Rattle.books_schema.proofs.BringLemmas.{meta_kept, same_day, same_fillers, same_room, same_filling, same_row}
use Rattle.books_schema.proofs.SettleLemmas.{day_of_row}
use Rattle.books_schema.proofs.migration.bring.Goals as goal

pub returns-clause-done : goal.returns-clause-done
returns-clause-done g c clean base books =
    let s1 = state g.S.Store c.make_room.new.tx.conn.now in
    let s2 = state g.S.Store c.read_old.new.tx.conn.now in
    let s3 = state g.S.Store c.write_new.new.tx.conn.now in
    let clean2 : HasCleanDisk s2 = omega (arith, clean, c.write_new.ensures.survives.clean) in
    let clean1 : HasCleanDisk s1 = omega (arith, clean2, c.read_old.ensures.survives.clean) in
    let room = c.in_ok-make_room.ensures.done clean1 base books in
    let same = c.in_ok-row.ensures.same clean2 room.ready in
    let row = same_row (number c.args.older) s1.now s2.now _ same.0.now_is (c.in_ok-row.ensures.row clean2 room.ready) in
    let fills = same_filling c.args.older s1.now s2.now _ same.0.now_is (c.in_ok-row.ensures.fills clean2 room.ready) in
    c.in_ok-write_new.ensures.done clean c.args.older base (same_room c.args.older base s1 s2 room same) row (subst (Fills c.args.older s2.now.trees) (sym c.as_slice.ensures.value) fills)

pub returns-clause-day : goal.returns-clause-day
returns-clause-day g c clean base books =
    let s1 = state g.S.Store c.make_room.new.tx.conn.now in
    let s2 = state g.S.Store c.read_old.new.tx.conn.now in
    let s3 = state g.S.Store c.write_new.new.tx.conn.now in
    let clean2 : HasCleanDisk s2 = omega (arith, clean, c.write_new.ensures.survives.clean) in
    let clean1 : HasCleanDisk s1 = omega (arith, clean2, c.read_old.ensures.survives.clean) in
    let room = c.in_ok-make_room.ensures.done clean1 base books in
    same_day (number c.args.older) s1.now.trees base c.in_ok-row.row.day (meta_kept c.args.older base s1.now.trees room.kept) (day_of_row (number c.args.older) s1.now.trees c.in_ok-row.row (c.in_ok-row.ensures.row clean2 room.ready))

pub returns-in_err-row-clause-foreign : goal.returns-in_err-row-clause-foreign
returns-in_err-row-clause-foreign g c clean base books =
    let s1 = state g.S.Store c.make_room.new.tx.conn.now in
    let clean1 : HasCleanDisk s1 = omega (arith, clean, c.read_old.ensures.survives.clean) in
    let room = c.in_ok-make_room.ensures.done clean1 base books in
    same_error c.from_residual-in_err-row.result c.in_err-row.field-0.0 c.from_residual-in_err-row.ensures (λ r. IfErr r (λ e. e ≡ Foreign → (day : ℤ) → HasDayAt (number c.args.older) base day → ¬ AreFillersTyped c.args.older base))
    (λ is day has typed. c.in_err-row.ensures.foreign clean room.ready is day (same_day (number c.args.older) base s1.now.trees day (sym (meta_kept c.args.older base s1.now.trees room.kept)) has) (same_fillers c.args.older base s1.now.trees room.kept typed))

pub returns-in_err-write_new-clause-foreign : goal.returns-in_err-write_new-clause-foreign
returns-in_err-write_new-clause-foreign g c clean base books =
    let s1 = state g.S.Store c.make_room.new.tx.conn.now in
    let s2 = state g.S.Store c.read_old.new.tx.conn.now in
    let clean2 : HasCleanDisk s2 = omega (arith, clean, c.write_new.ensures.survives.clean) in
    let clean1 : HasCleanDisk s1 = omega (arith, clean2, c.read_old.ensures.survives.clean) in
    let room = c.in_ok-make_room.ensures.done clean1 base books in
    let same = c.in_ok-row.ensures.same clean2 room.ready in
    let row = same_row (number c.args.older) s1.now s2.now _ same.0.now_is (c.in_ok-row.ensures.row clean2 room.ready) in
    same_error c.from_residual-in_err-write_new.result c.in_err-write_new.field-0.0 c.from_residual-in_err-write_new.ensures (λ r. IfErr r (λ e. e ≡ Foreign → (day : ℤ) → HasDayAt (number c.args.older) base day → ¬ AreFillersTyped c.args.older base))
    (λ is day has typed. c.in_err-write_new.ensures.never_foreign clean (same_room c.args.older base s1 s2 room same).ready (number c.args.older) row is)

pub returns-clause-kept : goal.returns-clause-kept
returns-clause-kept g c clean base books =
    let s0 = state g.S.Store c.args.tx.now.conn.now in
    let s1 = state g.S.Store c.make_room.new.tx.conn.now in
    let s2 = state g.S.Store c.read_old.new.tx.conn.now in
    let s3 = state g.S.Store c.write_new.new.tx.conn.now in
    let clean2 : HasCleanDisk s2 = omega (arith, clean, c.write_new.ensures.survives.clean) in
    let clean1 : HasCleanDisk s1 = omega (arith, clean2, c.read_old.ensures.survives.clean) in
    let room = c.in_ok-make_room.ensures.done clean1 base books in
    kept_then s0 s2 s3 (kept_then s0 s1 s2 (c.in_ok-make_room.ensures.kept clean1) (c.in_ok-row.ensures.kept clean2 room.ready)) (c.in_ok-write_new.ensures.kept clean)

pub returns-in_err-write_new-clause-kept : goal.returns-in_err-write_new-clause-kept
returns-in_err-write_new-clause-kept g c clean base books =
    let s0 = state g.S.Store c.args.tx.now.conn.now in
    let s1 = state g.S.Store c.make_room.new.tx.conn.now in
    let s2 = state g.S.Store c.read_old.new.tx.conn.now in
    let s3 = state g.S.Store c.write_new.new.tx.conn.now in
    let clean2 : HasCleanDisk s2 = omega (arith, clean, c.write_new.ensures.survives.clean) in
    let clean1 : HasCleanDisk s1 = omega (arith, clean2, c.read_old.ensures.survives.clean) in
    let room = c.in_ok-make_room.ensures.done clean1 base books in
    kept_then s0 s2 s3 (kept_then s0 s1 s2 (c.in_ok-make_room.ensures.kept clean1) (c.in_ok-row.ensures.kept clean2 room.ready)) (c.write_new.ensures.kept clean)

pub returns-in_err-row-clause-kept : goal.returns-in_err-row-clause-kept
returns-in_err-row-clause-kept g c clean base books =
    let s0 = state g.S.Store c.args.tx.now.conn.now in
    let s1 = state g.S.Store c.make_room.new.tx.conn.now in
    let s2 = state g.S.Store c.read_old.new.tx.conn.now in
    let clean1 : HasCleanDisk s1 = omega (arith, clean, c.read_old.ensures.survives.clean) in
    let room = c.in_ok-make_room.ensures.done clean1 base books in
    kept_then s0 s1 s2 (c.in_ok-make_room.ensures.kept clean1) (c.read_old.ensures.kept clean room.ready)
