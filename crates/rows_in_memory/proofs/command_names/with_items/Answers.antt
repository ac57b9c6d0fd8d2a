use Rattle.rows_in_memory.proofs.Words.{◌∙◌, LineRow}
use Rattle.rows_in_memory.proofs.NamesOnce.{names_once}
use Rattle.rows_in_memory.proofs.command_names.with_items.Goals as goal

pub returns : goal.returns
returns c keyed = c.into_values.ensures ∙ c.in_ok-add_all.ensures.added keyed ∙ names_once (λ (r : LineRow). r.gtin) c.args.lines.now c.args.list.values.items
