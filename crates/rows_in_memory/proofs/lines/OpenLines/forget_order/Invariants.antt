use Rattle.rows_in_memory.proofs.Words.{◌&&◌, drop, same_text, LineRow}
use Rattle.rows_in_memory.proofs.Stepping.{Losing}
use Rattle.rows_in_memory.proofs.lines.OpenLines.forget_order.Given as goal

abbrev pub invariant-loop-line : goal.invariant-loop-line
invariant-loop-line l = Losing {X = LineRow} (λ r g o. same_text o l.order && (same_text o r.order && same_text g r.gtin)) l.lines (drop l.line-index l.lines) l.initial.self l.self
