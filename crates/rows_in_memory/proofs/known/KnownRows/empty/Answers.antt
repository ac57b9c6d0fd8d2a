use Rattle.std.proofs.Common.{[], refl, sym, ◌∙◌, arith}
use Rattle.rows_in_memory.proofs.Maps.{changes_emptied}
use Rattle.rows_in_memory.proofs.Weights.{list_gone}
use Rattle.rows_in_memory.proofs.known.KnownRows.empty.Goals as goal

pub overflow_sub-self : goal.overflow_sub-self
overflow_sub-self g c =
    omega (arith, c.weight_of.ensures, c.args.self.now.weighs, list_gone _ c.args.self.now.rows.lists c.remove.new.self c.in-Some.rows c.remove.ensures.entries (sym c.in-Some.is ∙ c.remove.ensures.value))

pub invariant_of-self : goal.invariant_of-self
invariant_of-self g c = record {
  weighs = omega (arith, c.weight_of.ensures, c.args.self.now.weighs, list_gone _ c.args.self.now.rows.lists c.remove.new.self c.in-Some.rows c.remove.ensures.entries (sym c.in-Some.is ∙ c.remove.ensures.value));
}

pub returns-in-Some : goal.returns-in-Some
returns-in-Some g c =
    changes_emptied g.K.Ord.cmp (g.K.KeyOf.key c.args.by.now) c.of.result (λ rows. []) c.args.self.now.rows c.of.ensures (λ rows. refl)
    (record { lists = c.remove.new.self; whole = c.args.self.now.rows.whole }) (λ w. w) c.remove.ensures.updates.0
