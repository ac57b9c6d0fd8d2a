use Rattle.rows_in_memory.proofs.Maps.{part_self, part_then}
use Rattle.rows_in_memory.proofs.known.KnownRows.drop_lists.Goals as goal

pub loop-row-init : goal.loop-row-init
loop-row-init g c = part_self g.K.Ord.cmp c.args.self.now.rows

pub loop-row-preserved : goal.loop-row-preserved
loop-row-preserved g c = part_then g.K.Ord.cmp c.args.self.now.rows c.loop-row.self.rows c.drop_list.new.self.rows c.loop-row.invariant c.drop_list.ensures

pub returns : goal.returns
returns g c = c.loop-row.invariant
