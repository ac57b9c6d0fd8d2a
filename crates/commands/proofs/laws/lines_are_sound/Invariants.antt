use Rattle.commands.proofs.Below.{◌≡◌, true, take, list_all, is_order_line}
use Rattle.commands.proofs.laws.lines_are_sound.Given as goal

abbrev pub invariant-loop-line : goal.invariant-loop-line
invariant-loop-line l = list_all is_order_line (take l.line-index l.lines) ≡ true
