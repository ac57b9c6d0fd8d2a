use Rattle.rows_in_memory.proofs.Words.{rules, not, filter_same}
use Rattle.rows_in_memory.proofs.lists.drop_from.Goals as goal

pub returns : goal.returns
returns g c = filter_same _ (λ x. not (g.R.KeyedRow.same_row x c.args.row.now)) _ (λ x b f h. search rules) c.args.rows.now.items c.retain.new.self.items c.retain.ensures.filtered
