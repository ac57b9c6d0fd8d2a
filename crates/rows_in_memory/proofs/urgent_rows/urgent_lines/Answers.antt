use Rattle.rows_in_memory.proofs.Words.{List, ap, UrgentRow, same_items, urgent_lines}
use Rattle.rows_in_memory.proofs.urgent_rows.urgent_lines.Goals as goal

pub returns : goal.returns
returns c = same_items c.with_own_urgents.result _ _ c.with_own_urgents.ensures (ap (λ (urgents : List UrgentRow). urgent_lines urgents c.args.lines.now) c.in_ok-own.ensures)
