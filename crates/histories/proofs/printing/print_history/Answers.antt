use Rattle.histories.proofs.Words.{List, ℕ, Option, Result, Ok, Err, inl, inr, subst, ℤ, IfErr, Appends-nil, Database, state, Act, Writes, IsOfRows, history_text, IsHistoryPrinted}
use Rattle.histories.specs.Start.{IsStart}
use Rattle.histories.proofs.Twice.{was_clean, shown, ready_on, held_on, left_on, survives_on}
use Rattle.histories.proofs.printing.print_history.Goals as goal

printed : {E : Type 0} (first : ℤ) (acts : List Act) (old new : Option (List ℕ)) (begun : ℤ) (r : Result Unit E) → IsStart first acts begun → Writes r old new (history_text begun acts) → IsHistoryPrinted first acts old new r
printed first acts old new begun (Ok done) start h = (begun, start, h)
printed first acts old new begun (Err fault) start h = inr (begun, start, h)

pub returns-in-Ok-clause-printed : goal.returns-in-Ok-clause-printed
returns-in-Ok-clause-printed g c clean ready first acts history held today =
    let at = g.W.Write.contents in
    let a = state g.S.Store c.args.conn.now in
    let b = state g.S.Store c.find_first_day.new.conn in
    let d = state g.S.Store c.print_from.new.conn in
    let one = c.in-Ok.ensures.survives in
    let two = c.print_from.ensures.survives in
    let same = c.in-Ok.ensures.same in
    let was = was_clean a b d one two same clean in
    printed first acts (at c.args.out) (at c.print_from.result.0) c.in-Ok.begun c.print_from.result.1 (c.in-Ok.ensures.start was ready first acts history held today)
    (c.print_from.ensures.printed clean (ready_on a b d one two same clean ready) first acts history (held_on a b d one two same first acts clean ready held))

pub returns-in-Ok-clause-left : goal.returns-in-Ok-clause-left
returns-in-Ok-clause-left g c clean ready =
    left_on (state g.S.Store c.args.conn.now) (state g.S.Store c.find_first_day.new.conn) (state g.S.Store c.print_from.new.conn) c.in-Ok.ensures.survives c.print_from.ensures.survives c.in-Ok.ensures.same clean ready c.print_from.ensures.left

pub returns-in-Ok-clause-survives : goal.returns-in-Ok-clause-survives
returns-in-Ok-clause-survives g c =
    survives_on (state g.S.Store c.args.conn.now) (state g.S.Store c.find_first_day.new.conn) (state g.S.Store c.print_from.new.conn) c.in-Ok.ensures.survives c.print_from.ensures.survives c.in-Ok.ensures.same

pub returns-in-Err-clause-printed : goal.returns-in-Err-clause-printed
returns-in-Err-clause-printed g c clean ready first acts history held today = inl (Appends-nil (g.W.Write.contents c.args.out))

pub returns-in-Ok-clause-foreign : goal.returns-in-Ok-clause-foreign
returns-in-Ok-clause-foreign g c clean ready first acts history held =
    let a = state g.S.Store c.args.conn.now in
    let b = state g.S.Store c.find_first_day.new.conn in
    let d = state g.S.Store c.print_from.new.conn in
    let one = c.in-Ok.ensures.survives in
    let two = c.print_from.ensures.survives in
    let same = c.in-Ok.ensures.same in
    subst (λ (db : Database). IfErr c.print_from.result.1 (IsOfRows db.trees)) (shown a b d one two same clean ready)
    (c.print_from.ensures.foreign clean (ready_on a b d one two same clean ready) first acts history (held_on a b d one two same first acts clean ready held))
