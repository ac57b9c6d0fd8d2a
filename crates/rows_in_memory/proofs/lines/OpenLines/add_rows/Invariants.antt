use Rattle.rows_in_memory.proofs.Words.{◌&&◌, drop, same_text, LineRow, Keeps}
use Rattle.rows_in_memory.proofs.Stepping.{Gaining}
use Rattle.rows_in_memory.proofs.lines.OpenLines.add_rows.Given as goal

abbrev pub invariant-loop-row : goal.invariant-loop-row
invariant-loop-row l = Gaining {X = LineRow} (λ r g o. same_text o r.order && same_text g r.gtin) l.rows (drop l.row-index l.rows) l.initial.self l.self × Keeps l.initial.self l.self
