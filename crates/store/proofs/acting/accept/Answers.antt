use Rattle.store.proofs.Words.{ℕ, List, subst, ◌∙◌, state, SqliteFailure, OutOfMemory, key_text, Tables, with_repeat, TableStore as Store, Writes, same_error, writes_none, writes_then, change_made, repeat_of}
use Rattle.store.proofs.acting.accept.Goals as goal

pub returns-in_err-spelled-clause-writes : goal.returns-in_err-spelled-clause-writes
returns-in_err-spelled-clause-writes g c =
    let old = state g.S.Store c.args.tx.now.conn.now in
    let to = λ (t : Tables). with_repeat (repeat_of c.args.key.now c.args.command.now c.args.change.now) (change_made c.args.change.now c.args.filled t) in
    same_error c.from_residual.result (Store (SqliteFailure OutOfMemory)) c.from_residual.ensures (λ r. Writes {X = Unit {0}} to old old r) (writes_none (λ _. to) old (Store (SqliteFailure OutOfMemory)) (λ e. cc))

pub returns-in_err-write_change-clause-writes : goal.returns-in_err-write_change-clause-writes
returns-in_err-write_change-clause-writes g c =
    let old = state g.S.Store c.args.tx.now.conn.now in
    let new = state g.S.Store c.write_change.new.tx.conn.now in
    let to = λ (t : Tables). with_repeat (repeat_of c.args.key.now c.args.command.now c.args.change.now) (change_made c.args.change.now c.args.filled t) in
    let wrote = c.in_err-write_change.ensures.writes in
    same_error c.from_residual-in_err-write_change.result c.in_err-write_change.field-0.0 c.from_residual-in_err-write_change.ensures (λ r. Writes {X = Unit {0}} to old new r)
    (record { done = λ clean ready. tt; kept = wrote.kept; survives = wrote.survives; never_foreign = wrote.never_foreign })

pub returns-clause-writes : goal.returns-clause-writes
returns-clause-writes g c =
    let old = state g.S.Store c.args.tx.now.conn.now in
    let mid = state g.S.Store c.write_change.new.tx.conn.now in
    let new = state g.S.Store c.keep_act.new.tx.conn.now in
    let change = c.args.change.now in
    subst (λ (s : List ℕ). Writes {X = Unit {0}} (λ t. with_repeat (record { k = key_text c.args.key.now; act = change.meta.acts; spell = s; reply = change.text }) (change_made change c.args.filled t)) old new c.keep_act.result)
    (c.from_vec.ensures ∙ c.in_ok-spelled.ensures)
    (writes_then (λ _. change_made change c.args.filled) (λ _. with_repeat (record { k = key_text c.args.key.now; act = change.meta.acts; spell = c.from_vec.result; reply = change.text })) old mid new tt c.keep_act.result c.in_ok-write_change.ensures.writes c.keep_act.ensures.writes)
