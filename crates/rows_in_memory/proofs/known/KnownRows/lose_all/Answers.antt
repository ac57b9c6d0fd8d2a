use Rattle.rows_in_memory.proofs.Words.{without_row}
use Rattle.rows_in_memory.proofs.Maps.{changed_part}
use Rattle.rows_in_memory.proofs.known.KnownRows.lose_all.Goals as goal

pub returns : goal.returns
returns g c = changed_part g.K.Ord.cmp (λ r. g.K.KeyOf.key (g.R.Has.of_row r)) (without_row g.R.KeyedRow.same_row) c.args.rows.now c.args.self.now.rows c.drop_all.new.self.rows c.drop_lists.new.self.rows c.drop_all.ensures c.drop_lists.ensures
