use Rattle.tables.proofs.Words.{sym, subst, state, survives_weaker, never_commits}
use Rattle.sqlite.specs.Given.{IsPlain}
use Rattle.sqlite.specs.Listing.{understood}
use Rattle.tables.proofs.CardsByAct.{cards_by_act_text, cards_by_act_plain, cards_over}
use Rattle.tables.proofs.cards.each_card.Goals as goal

pub returns-clause-handed : goal.returns-clause-handed
returns-clause-handed g c clean ready typed =
    let plain = subst (λ s. IsPlain (understood s cards_by_act_text)) (sym ready.has.is) (cards_by_act_plain ready.has.rest) in
    cards_over c.args.lot.now g.K.Sink.takes g.K.Sink.stops (state g.S.Store c.args.conn.now) (state g.S.Store c.each.new.conn) c.args.sink.now c.each.new.sink c.each.result ready typed
    (rw (c.value.ensures.value, c.value-2.ensures.value) at (c.each.ensures.handed clean plain))

pub returns-clause-left : goal.returns-clause-left
returns-clause-left g c clean ready = c.each.ensures.left clean (subst (λ s. IsPlain (understood s cards_by_act_text)) (sym ready.has.is) (cards_by_act_plain ready.has.rest))

pub returns-clause-survives : goal.returns-clause-survives
returns-clause-survives g c =
    survives_weaker (state g.S.Store c.args.conn.now) (state g.S.Store c.each.new.conn) _ _
    (λ clean db commits ready. never_commits cards_by_act_text _ (state g.S.Store c.args.conn.now) db (subst (λ s. IsPlain (understood s cards_by_act_text)) (sym ready.has.is) (cards_by_act_plain ready.has.rest)) commits)
    c.each.ensures.survives
