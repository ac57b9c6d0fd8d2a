use Rattle.texts.proofs.Words.{length, ◌-◌, ◌≡◌, map, drop, lines_read}
use Rattle.texts.proofs.LinesRead.{with_front}
use Rattle.texts.proofs.command.order_lines.Given as goal

abbrev pub invariant-loop-at : goal.invariant-loop-at
invariant-loop-at l = with_front l.lines.items (lines_read (drop l.at (map (λ f. f.now) l.fields))) ≡ lines_read (drop 3 (map (λ f. f.now) l.fields))

abbrev pub decreases-loop-at : goal.decreases-loop-at
decreases-loop-at l = length l.fields - l.at
