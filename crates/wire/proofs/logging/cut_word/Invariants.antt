use Rattle.wire.proofs.Words.{◌≡◌, take, drop, cut_word}
use Rattle.wire.proofs.LogLines.{cut_from}
use Rattle.wire.proofs.logging.cut_word.Given as goal

abbrev pub invariant-loop-i : goal.invariant-loop-i
invariant-loop-i l = cut_word l.text ≡ cut_from (take l.i l.text) (cut_word (drop l.i l.text))
