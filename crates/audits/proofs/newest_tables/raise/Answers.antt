use Rattle.audits.proofs.Words.{◌≡◌, ◌≢◌, OnOk, sym, subst, state, Foreign, on_ok_then, if_err, Found, IsBegunOver, AreShown, CannotBeRaised}
use Rattle.audits.proofs.Raised.{shown_newest, shown_brought}
use Rattle.audits.proofs.newest_tables.raise.Goals as goal

pub returns-in-Newest-clause-shown : goal.returns-in-Newest-clause-shown
returns-in-Newest-clause-shown g c = λ clean base begun.
    let o = state g.S.Store c.args.tx.now.conn.now in
    let n = state g.S.Store c.raise_number.new.tx.conn.now in
    let is = subst (λ (f : Found). IsBegunOver f base o) c.in-Newest.is begun in
    subst (λ (f : Found). OnOk c.raise_number.result (AreShown f base n)) (sym c.in-Newest.is) (on_ok_then c.raise_number.result (c.raise_number.ensures.shown clean is.0) (shown_newest base o n is.1))

pub returns-in-Ok-clause-shown : goal.returns-in-Ok-clause-shown
returns-in-Ok-clause-shown g c = λ clean base begun.
    let o = state g.S.Store c.args.tx.now.conn.now in
    let n = state g.S.Store c.bring.new.tx.conn.now in
    let is = subst (λ (f : Found). IsBegunOver f base o) c.in-Older.is begun in
    subst (λ (f : Found). AreShown f base n) (sym c.in-Older.is) (shown_brought c.in-Older.older base n (c.in-Ok.ensures.done clean base is))

pub returns-in-Newest-clause-foreign : goal.returns-in-Newest-clause-foreign
returns-in-Newest-clause-foreign g c = λ clean base begun.
    let is = subst (λ (f : Found). IsBegunOver f base (state g.S.Store c.args.tx.now.conn.now)) c.in-Newest.is begun in
    if_err c.raise_number.result (λ e. e ≢ Foreign) (λ e. e ≡ Foreign → CannotBeRaised c.args.found base) (c.raise_number.ensures.never_foreign clean is.0) (λ e never foreign. absurd (never foreign))

pub returns-in-Err-clause-foreign : goal.returns-in-Err-clause-foreign
returns-in-Err-clause-foreign g c = λ clean base begun foreign.
    let is = subst (λ (f : Found). IsBegunOver f base (state g.S.Store c.args.tx.now.conn.now)) c.in-Older.is begun in
    subst (λ (f : Found). CannotBeRaised f base) (sym c.in-Older.is) (c.in-Err.ensures.foreign clean base is foreign)
