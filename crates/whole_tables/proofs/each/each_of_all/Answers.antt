use Rattle.whole_tables.proofs.Words.{sym, subst, IsPlain, state, understood, survives_weaker, never_commits}
use Rattle.whole_tables.proofs.Handing.{all_over}
use Rattle.whole_tables.proofs.each.each_of_all.Goals as goal

pub returns-clause-handed : goal.returns-clause-handed
returns-clause-handed g c clean ready typed =
    let text = g.T.Entire.whole in
    let is = g.met.T.Entire.whole_laws in
    let plain = subst (λ s. IsPlain (understood s text)) (sym ready.has.is) (is ready.has.rest).2 in
    all_over g.T.Table.table g.met.T.Table.laws text is (state g.S.Store c.args.conn.now) ready typed g.K.Sink.takes g.K.Sink.stops (state g.S.Store c.each.new.conn) c.args.sink.now c.each.new.sink c.each.result
    ((rw c.whole_text.ensures at c.each.ensures.handed) clean plain)

pub returns-clause-left : goal.returns-clause-left
returns-clause-left g c clean ready =
    (rw c.whole_text.ensures at c.each.ensures.left) clean (subst (λ s. IsPlain (understood s g.T.Entire.whole)) (sym ready.has.is) (g.met.T.Entire.whole_laws ready.has.rest).2)

pub returns-clause-survives : goal.returns-clause-survives
returns-clause-survives g c =
    let text = g.T.Entire.whole in
    survives_weaker (state g.S.Store c.args.conn.now) (state g.S.Store c.each.new.conn) _ _
    (λ clean db commits ready. never_commits text _ (state g.S.Store c.args.conn.now) db (subst (λ s. IsPlain (understood s text)) (sym ready.has.is) (g.met.T.Entire.whole_laws ready.has.rest).2) commits)
    (rw c.whole_text.ensures at c.each.ensures.survives)
