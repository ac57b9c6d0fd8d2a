use Rattle.applies.proofs.Words.{◌≡◌, take, drop, cut_at_tab}
use Rattle.applies.proofs.LineFields.{cut_from}
use Rattle.applies.proofs.fields.cut.Given as goal

-- no tab stands before
abbrev pub invariant-loop-i : goal.invariant-loop-i
invariant-loop-i l = cut_at_tab l.text ≡ cut_from (take l.i l.text) (cut_at_tab (drop l.i l.text))
