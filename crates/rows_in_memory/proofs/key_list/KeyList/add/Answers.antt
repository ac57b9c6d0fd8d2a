use Rattle.rows_in_memory.proofs.Words.{◌≡◌, true, cond, refl, subst, rules, is_at, contains}
use Rattle.rows_in_memory.proofs.KeysSeen.{keyed_with, keyed_as}
use Rattle.rows_in_memory.proofs.key_list.KeyList.add.Goals as goal

pub returns-then-is_new-clause-keyed : goal.returns-then-is_new-clause-keyed
returns-then-is_new-clause-keyed g c keyed =
    let old = c.args.self.now in
    let cmp = g.K.Ord.cmp in
    let updates =
    subst (λ (k : g.row.K.Denot). (q : g.row.K.Denot) → contains cmp c.insert.new.self q ≡ cond (is_at (cmp k) q) true (contains cmp old.keys q)) c.of.ensures c.in_ok-is_new.ensures.updates.0 in
    keyed_with cmp g.K.KeyOf.key g.K.KeyOf.same g.met.K.KeyOf.told old.keys c.insert.new.self old.values.items c.reserve.new.self.items c.push_reserved.new.self.items c.args.value keyed updates c.reserve.ensures.items c.push_reserved.ensures.items

pub returns-else-is_new-clause-keyed : goal.returns-else-is_new-clause-keyed
returns-else-is_new-clause-keyed g c keyed =
    let old = c.args.self.now in
    keyed_as g.K.Ord.cmp g.K.KeyOf.key g.K.KeyOf.same old.keys c.insert.new.self old.values.items c.reserve.new.self.items (search rules) c.reserve.ensures.items keyed

pub returns-in_err-is_new-clause-keyed : goal.returns-in_err-is_new-clause-keyed
returns-in_err-is_new-clause-keyed g c keyed =
    let old = c.args.self.now in
    keyed_as g.K.Ord.cmp g.K.KeyOf.key g.K.KeyOf.same old.keys c.insert.new.self old.values.items c.reserve.new.self.items c.in_err-is_new.ensures.err c.reserve.ensures.items keyed

pub returns-in_err-reserve-clause-keyed : goal.returns-in_err-reserve-clause-keyed
returns-in_err-reserve-clause-keyed g c keyed =
    let old = c.args.self.now in
    keyed_as g.K.Ord.cmp g.K.KeyOf.key g.K.KeyOf.same old.keys old.keys old.values.items c.reserve.new.self.items refl c.reserve.ensures.items keyed
