use Rattle.histories.proofs.Words.{refl, sym, subst, ◌∙◌, Ok, Err, None, IfOk-weaker, IfErr-weaker, state, on_ok_if, EachFault, HandsOver, IsLeft, IsOfRows, Passes, Finds, FirstStart, Foreign}
use Rattle.histories.proofs.Begun.{none_tells, one_tells}
use Rattle.histories.proofs.Kept.{rows, found, mine, start_told, stays}
use Rattle.histories.proofs.start.find_start.Goals as goal

pub returns-in-Ok-clause-found : goal.returns-in-Ok-clause-found
returns-in-Ok-clause-found g c clean ready first acts history held =
    let old = state g.S.Store c.args.conn.now in
    let start : FirstStart = record { alloc = c.args.alloc; done = 0; found = None; fault = Foreign } in
    none_tells first acts history (rows first acts history old ready held) start c.each_of_all.new.sink refl (mine first acts history old ready held) (found first acts history old ready held) (c.in-Ok.ensures.handed clean ready held.typed)

pub returns-in-Err-clause-found : goal.returns-in-Err-clause-found
returns-in-Err-clause-found g c clean ready first acts history held =
    let old = state g.S.Store c.args.conn.now in
    let start : FirstStart = record { alloc = c.args.alloc; done = 0; found = None; fault = Foreign } in
    IfOk-weaker c.found_at.result _ _ (λ d h.
    h.1 ∙ one_tells first acts history (rows first acts history old ready held) start c.each_of_all.new.sink refl (mine first acts history old ready held)
    (subst (λ (e : EachFault). HandsOver Passes Finds start (rows first acts history old ready held) c.each_of_all.new.sink (Err e)) h.0 (c.in-Err.ensures.handed clean ready held.typed)) (λ none. h.2 (h.1 ∙ none))) c.found_at.ensures.found

pub returns-in-Ok-clause-left : goal.returns-in-Ok-clause-left
returns-in-Ok-clause-left g c clean ready = stays (state g.S.Store c.args.conn.now) (state g.S.Store c.each_of_all.new.conn) (Ok tt) (c.in-Ok.ensures.left clean ready)

pub returns-in-Err-clause-left : goal.returns-in-Err-clause-left
returns-in-Err-clause-left g c clean ready = stays (state g.S.Store c.args.conn.now) (state g.S.Store c.each_of_all.new.conn) (Err c.in-Err.cause) (c.in-Err.ensures.left clean ready)

pub returns-in-Ok-clause-same : goal.returns-in-Ok-clause-same
returns-in-Ok-clause-same g c clean ready = c.in-Ok.ensures.left clean ready

pub returns-in-Err-clause-same : goal.returns-in-Err-clause-same
returns-in-Err-clause-same g c clean ready =
    on_ok_if c.found_at.result _ c.found_at.ensures.found (λ d h. subst (λ (e : EachFault). IsLeft (state g.S.Store c.args.conn.now) (state g.S.Store c.each_of_all.new.conn) (Err e)) h.0 (c.in-Err.ensures.left clean ready))

pub returns-in-Err-clause-foreign : goal.returns-in-Err-clause-foreign
returns-in-Err-clause-foreign g c clean ready first acts history held =
    let old = state g.S.Store c.args.conn.now in
    let start : FirstStart = record { alloc = c.args.alloc; done = 0; found = None; fault = Foreign } in
    IfErr-weaker c.found_at.result _ _
    (λ fault h. subst (IsOfRows old.now.trees) (sym h.0) (start_told first acts history old ready held start c.each_of_all.new.sink refl c.in-Err.cause h.1 (c.in-Err.ensures.handed clean ready held.typed))) c.found_at.ensures.fault
