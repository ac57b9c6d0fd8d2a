use Rattle.wire.proofs.Words.{◌-◌, length, Consumes}
use Rattle.wire.proofs.serving.read_whole.Given as goal

abbrev pub invariant-loop-fault : goal.invariant-loop-fault
invariant-loop-fault g l = Consumes (g.R.Read.remaining l.initial.reader) (g.R.Read.remaining l.reader) l.text.items

abbrev pub decreases-loop-fault : goal.decreases-loop-fault
decreases-loop-fault g l = 270_400 - length l.text.items
