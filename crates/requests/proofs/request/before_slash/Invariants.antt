use Rattle.requests.proofs.Words.{◌≡◌, ◌++◌, take, drop, before_slash}
use Rattle.requests.proofs.request.before_slash.Given as goal

abbrev pub invariant-loop-i : goal.invariant-loop-i
invariant-loop-i l = take l.i l.text ++ before_slash (drop l.i l.text) ≡ before_slash l.text
