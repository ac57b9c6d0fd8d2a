use Rattle.row_rules.proofs.Words.{◌&&◌, same_text, OrderRow, is_open_state}
use Rattle.row_rules.proofs.Searching.{IsTested}
use Rattle.row_rules.proofs.open_lines.first_open.Given as goal

abbrev pub invariant-loop-index : goal.invariant-loop-index
invariant-loop-index l = IsTested {X = OrderRow} (λ r. same_text l.name r.order && is_open_state r.state) l.orders l.index
