use Rattle.histories.proofs.Words.{◌≡◌, Option, Some, ap, sym, subst, ◌∙◌, IfErr-weaker, state, Start, Received, start_of, IsStartBy}
use Rattle.histories.proofs.InTurn.{of_rows}
use Rattle.histories.proofs.Kept.{today_told}
use Rattle.histories.proofs.Twice.{was_clean, ready_on, held_on, survives_on}
use Rattle.histories.proofs.start.find_first_day.Goals as goal

pub returns-in_default-clause-start : goal.returns-in_default-clause-start
returns-in_default-clause-start g c clean ready first acts history held now =
    subst (λ (s : Option Start). IsStartBy first acts s c.args.today) (sym c.in_default.is ∙ c.in_ok-start.ensures.found clean ready first acts history held) (today_told first acts c.args.today now)

pub returns-in-Received-clause-survives : goal.returns-in-Received-clause-survives
returns-in-Received-clause-survives g c =
    survives_on (state g.S.Store c.args.conn.now) (state g.S.Store c.find_start.new.conn) (state g.S.Store c.card_day.new.conn) c.in_ok-start.ensures.survives c.card_day.ensures.survives c.in_ok-start.ensures.same

pub returns-in-Received-clause-foreign : goal.returns-in-Received-clause-foreign
returns-in-Received-clause-foreign g c clean ready first acts history held =
    let a = state g.S.Store c.args.conn.now in
    let b = state g.S.Store c.find_start.new.conn in
    let d = state g.S.Store c.card_day.new.conn in
    let one = c.in_ok-start.ensures.survives in
    let two = c.card_day.ensures.survives in
    let same = c.in_ok-start.ensures.same in
    let found = c.in_ok-start.ensures.found (was_clean a b d one two same clean) ready first acts history held in
    let told : start_of acts ≡ Some (Received c.in-Received.lot c.in-Received.act) = sym (ap (λ s. Some s) (sym c.in-Received.is) ∙ sym c.in-Some.is ∙ found) in
    IfErr-weaker c.card_day.result _ _ (λ fault own. of_rows a.now.trees fault (λ is. absurd (own is))) (c.card_day.ensures.own clean (ready_on a b d one two same clean ready) first acts history (held_on a b d one two same first acts clean ready held) told)
