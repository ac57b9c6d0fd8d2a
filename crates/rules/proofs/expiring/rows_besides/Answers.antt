use Rattle.rules.proofs.Words.{List, ap, not, filter, StockRow, same_items, stands_in}
use Rattle.rules.proofs.expiring.rows_besides.Goals as goal

pub returns : goal.returns
returns c = same_items c.failing.result _ _ c.failing.ensures (ap (λ (others : List StockRow). filter (λ r. not (stands_in others r)) c.args.rows.now) c.in_ok-by_cell.ensures)
