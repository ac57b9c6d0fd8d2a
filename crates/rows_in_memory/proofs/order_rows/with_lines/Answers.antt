use Rattle.rows_in_memory.proofs.Words.{List, ap, LineRow, same_items, with_lines}
use Rattle.rows_in_memory.proofs.order_rows.with_lines.Goals as goal

pub returns : goal.returns
returns c = same_items c.with_own_lines.result _ _ c.with_own_lines.ensures (ap (λ (lines : List LineRow). with_lines lines c.args.orders.now) c.in_ok-own.ensures)
