-- No line feed has come so far.
use Rattle.histories.proofs.Words.{◌-◌, ◌≤◌, length, Consumes, IsPart}
use Rattle.histories.proofs.reading.read_line.Given as goal

abbrev pub invariant-loop-line : goal.invariant-loop-line
invariant-loop-line g l = Consumes (g.R.Read.remaining l.initial.reader) (g.R.Read.remaining l.reader) l.line.items × IsPart l.line.items × (length l.line.items ≤ 8_192)

abbrev pub decreases-loop-line : goal.decreases-loop-line
decreases-loop-line g l = 8_192 - length l.line.items
