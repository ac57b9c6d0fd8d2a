use Rattle.store.proofs.Words.{ℕ, List, subst, state, with_repeat, Writes}
use Rattle.store.proofs.repeats.keep_act.Goals as goal

pub returns-clause-writes : goal.returns-clause-writes
returns-clause-writes g c =
    let change = c.args.change.now in
    subst (λ (k : List ℕ). Writes {X = Unit {0}} (with_repeat (record { k = k; act = change.meta.acts; spell = c.args.spell; reply = change.text })) (state g.S.Store c.args.tx.now.conn.now) (state g.S.Store c.add.new.tx.conn.now) c.add.result)
    c.text.ensures c.add.ensures.writes
