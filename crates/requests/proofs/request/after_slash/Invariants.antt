use Rattle.requests.proofs.Words.{◌≡◌, drop, after_slash}
use Rattle.requests.proofs.request.after_slash.Given as goal

abbrev pub invariant-loop-i : goal.invariant-loop-i
invariant-loop-i l = after_slash (drop l.i l.text) ≡ after_slash l.text
