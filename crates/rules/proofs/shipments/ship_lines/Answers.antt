use Rattle.rules.proofs.Words.{List, ap, map, StagedRow, same_items, line_shipped}
use Rattle.rules.proofs.shipments.ship_lines.Goals as goal

pub returns : goal.returns
returns c = same_items c.each_made.result _ _ c.each_made.ensures (ap (λ (staged : List StagedRow). map (line_shipped staged) c.args.rows.now) c.in_ok-by_line.ensures)
