use Rattle.audits.proofs.Words.{IfOk, Ok, Err, Some, None, refl, sym, ap, subst, ◌∙◌, state, IsBooksOf, IsHeld, SameTables, AreSeen, Tells}
use Rattle.audits.proofs.Findings.{held_same, held_other, held_untyped, held_unread}
use Rattle.audits.proofs.whole.hold_against.Goals as goal

pub returns-in-Ok-None-clause-held : goal.returns-in-Ok-None-clause-held
returns-in-Ok-None-clause-held g c = λ clean ready done books.
    let o = state g.S.Store c.args.tx.now.conn.now in
    let n = state g.S.Store c.compare_tables-told.new.books.conn.now in
    let b = state g.M.Store c.transaction-other.result.conn.now in
    let d = state g.M.Store c.compare_tables-told.new.replayed.conn.now in
    let shown : IsBooksOf c.args.day done b.now = subst (λ h. IsBooksOf c.args.day done (state g.M.Store h).now) (sym c.transaction-other.ensures.begun) books in
    let seen : AreSeen o n b d = record { clean = clean; clean_too = g.met.M.Honest.always_clean c.compare_tables-told.new.replayed.conn.now.store; ready = ready; ready_too = shown.ready } in
    let told : Tells SameTables o n b d (Ok None) = subst (λ r. Tells SameTables o n b d r) (c.in-Ok-None.is ∙ ap (λ x. Ok x) c.in-Ok-None.field-0-is) c.compare_tables-told.ensures.tells in
    (refl, refl, held_same o n b d c.args.day done seen shown told)

pub returns-in-Ok-Some-clause-held : goal.returns-in-Ok-Some-clause-held
returns-in-Ok-Some-clause-held g c = λ clean ready done books.
    let o = state g.S.Store c.args.tx.now.conn.now in
    let n = state g.S.Store c.compare_tables-told.new.books.conn.now in
    let b = state g.M.Store c.transaction-other.result.conn.now in
    let d = state g.M.Store c.compare_tables-told.new.replayed.conn.now in
    let shown : IsBooksOf c.args.day done b.now = subst (λ h. IsBooksOf c.args.day done (state g.M.Store h).now) (sym c.transaction-other.ensures.begun) books in
    let seen : AreSeen o n b d = record { clean = clean; clean_too = g.met.M.Honest.always_clean c.compare_tables-told.new.replayed.conn.now.store; ready = ready; ready_too = shown.ready } in
    let told : Tells SameTables o n b d (Ok (Some c.in-Ok-Some.row)) = subst (λ r. Tells SameTables o n b d r) (c.in-Ok-Some.is ∙ ap (λ x. Ok x) c.in-Ok-Some.field-0-is) c.compare_tables-told.ensures.tells in
    held_other o n b d c.args.day done seen shown c.in-Ok-Some.row told

pub returns-clause-held : goal.returns-clause-held
returns-clause-held g c = λ clean ready done books.
    let o = state g.S.Store c.args.tx.now.conn.now in
    let n = state g.S.Store c.compare_tables-told.new.books.conn.now in
    let b = state g.M.Store c.transaction-other.result.conn.now in
    let d = state g.M.Store c.compare_tables-told.new.replayed.conn.now in
    let shown : IsBooksOf c.args.day done b.now = subst (λ h. IsBooksOf c.args.day done (state g.M.Store h).now) (sym c.transaction-other.ensures.begun) books in
    let seen : AreSeen o n b d = record { clean = clean; clean_too = g.met.M.Honest.always_clean c.compare_tables-told.new.replayed.conn.now.store; ready = ready; ready_too = shown.ready } in
    let told : Tells SameTables o n b d (Err c.in-Err.unread) = subst (λ r. Tells SameTables o n b d r) c.in-Err.is c.compare_tables-told.ensures.tells in
    subst (λ r. IfOk r (IsHeld c.args.day done c.args.acts o.now.trees)) (sym c.tell_unread.ensures.told) (held_unread c.args.day done c.args.acts o.now.trees c.in-Err.unread (held_untyped o n b d c.args.day done seen shown c.in-Err.unread told))
