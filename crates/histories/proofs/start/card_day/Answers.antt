use Rattle.histories.proofs.Words.{sym, subst, ◌∙◌, Ok, Err, None, IfOk-weaker, IfErr-weaker, state, on_ok_if, EachFault, HandsOver, IsLeft, IsPassed, TellsDay, CardDay}
use Rattle.histories.proofs.Kept.{lines, lines_own, day_told, line_there, own_fault, stays}
use Rattle.histories.proofs.start.card_day.Goals as goal

pub returns-in-Err-clause-day : goal.returns-in-Err-clause-day
returns-in-Err-clause-day g c clean ready first acts history held =
    let old = state g.S.Store c.args.conn.now in
    let start : CardDay = record { lot = c.args.lot; act = c.args.act; day = None } in
    IfOk-weaker c.day_at.result _ _ (λ day h.
    day_told first acts (lines first acts history old ready held) (lines_own first acts history old ready held) start c.each_of_all.new.sink
    (subst (λ (e : EachFault). HandsOver IsPassed TellsDay start (lines first acts history old ready held) c.each_of_all.new.sink (Err e)) h.0 (c.in-Err.ensures.handed clean ready held.typed)) day h.1) c.day_at.ensures.day

pub returns-in-Ok-clause-left : goal.returns-in-Ok-clause-left
returns-in-Ok-clause-left g c clean ready = stays (state g.S.Store c.args.conn.now) (state g.S.Store c.each_of_all.new.conn) (Ok tt) (c.in-Ok.ensures.left clean ready)

pub returns-in-Err-clause-left : goal.returns-in-Err-clause-left
returns-in-Err-clause-left g c clean ready = stays (state g.S.Store c.args.conn.now) (state g.S.Store c.each_of_all.new.conn) (Err c.in-Err.cause) (c.in-Err.ensures.left clean ready)

pub returns-in-Err-clause-same : goal.returns-in-Err-clause-same
returns-in-Err-clause-same g c clean ready =
    on_ok_if c.day_at.result _ c.day_at.ensures.day (λ d h. subst (λ (e : EachFault). IsLeft (state g.S.Store c.args.conn.now) (state g.S.Store c.each_of_all.new.conn) (Err e)) h.0 (c.in-Err.ensures.left clean ready))

pub returns-in-Ok-clause-own : goal.returns-in-Ok-clause-own
returns-in-Ok-clause-own g c clean ready first acts history held told =
    let old = state g.S.Store c.args.conn.now in
    let start : CardDay = record { lot = c.args.lot; act = c.args.act; day = None } in
    absurd (line_there first acts history old ready held start c.each_of_all.new.sink told (c.in-Ok.ensures.handed clean ready held.typed))

pub returns-in-Err-clause-own : goal.returns-in-Err-clause-own
returns-in-Err-clause-own g c clean ready first acts history held told =
    let old = state g.S.Store c.args.conn.now in
    let start : CardDay = record { lot = c.args.lot; act = c.args.act; day = None } in
    IfErr-weaker c.day_at.result _ _ (λ fault h is. own_fault first acts history old ready held start c.each_of_all.new.sink c.in-Err.cause h.1 (c.in-Err.ensures.handed clean ready held.typed) (sym h.0 ∙ is)) c.day_at.ensures.fault
