use Rattle.row_rules.specs.OpenLines.{open_of_line}
use Rattle.row_rules.proofs.Capping.{IsCapped}
use Rattle.row_rules.proofs.open_lines.sum_of_open_units.Given as goal

abbrev pub invariant-loop-line : goal.invariant-loop-line
invariant-loop-line l = IsCapped (open_of_line l.gtin l.orders) l.lines l.line-index l.sum
