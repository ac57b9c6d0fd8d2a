use Rattle.replays.proofs.Words.{take, TellNothing}
use Rattle.replays.proofs.Starting.{TellNone}
use Rattle.replays.proofs.start.start_of.Given as goal

abbrev pub invariant-loop-row : goal.invariant-loop-row
invariant-loop-row l = TellNone (take l.row-index l.rows) × TellNothing (take l.row-index l.rows)
