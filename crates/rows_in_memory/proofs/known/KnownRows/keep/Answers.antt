use Rattle.std.proofs.Common.{arith}
use Rattle.rows_in_memory.proofs.Weights.{list_came}
use Rattle.rows_in_memory.proofs.known.KnownRows.keep.Goals as goal

pub overflow_sub-self : goal.overflow_sub-self
overflow_sub-self g c =
    omega (
      arith,
      c.weight_of-more.ensures,
      c.weight_if.ensures,
      c.make_room.new.self.weighs,
      list_came g.K.Ord.cmp g.met.K.Ord.total c.make_room.new.self.rows.lists c.insert.new.self c.of.result c.args.rows c.in-Ok.before c.in-Ok.ensures.entries c.in-Ok.ensures.old c.insert.ensures.was_ordered,
    )

pub invariant_of-self : goal.invariant_of-self
invariant_of-self g c = record {
  weighs = omega (
    arith,
    c.weight_of-more.ensures,
    c.weight_if.ensures,
    c.make_room.new.self.weighs,
    list_came g.K.Ord.cmp g.met.K.Ord.total c.make_room.new.self.rows.lists c.insert.new.self c.of.result c.args.rows c.in-Ok.before c.in-Ok.ensures.entries c.in-Ok.ensures.old c.insert.ensures.was_ordered,
  );
}
