use Rattle.line_work.proofs.Words.{◌≡◌, ◌≤◌, length, take, map, shown_byte}
use Rattle.line_work.proofs.row_text.shown.Given as goal

abbrev pub invariant-loop-byte : goal.invariant-loop-byte
invariant-loop-byte l = (l.text ≡ map shown_byte (take l.byte-index l.bytes)) × (length l.text ≤ l.byte-index) × (length l.bytes ≤ 27)
