use Rattle.rows_in_memory.proofs.Maps.{all_known}
use Rattle.rows_in_memory.proofs.known.KnownRows.keep_all.Goals as goal

pub returns : goal.returns
returns g c =
    all_known g.K.Ord.cmp g.R.KeyedRow.same_row (λ r. g.K.KeyOf.key (g.R.Has.of_row r)) c.args.rows.now c.args.self.now.rows c.begin_anew.new.self.rows c.place_all.new.self.rows c.bound_whole.new.self.rows c.begin_anew.ensures.lists c.place_all.ensures c.bound_whole.ensures
