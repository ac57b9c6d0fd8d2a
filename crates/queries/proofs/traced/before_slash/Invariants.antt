use Rattle.queries.proofs.Words.{◌≡◌, ◌++◌, take, drop}
use Rattle.queries.specs.Traced.{before_slash}
use Rattle.queries.proofs.traced.before_slash.Given as goal

abbrev pub invariant-loop-i : goal.invariant-loop-i
invariant-loop-i l = take l.i l.text ++ before_slash (drop l.i l.text) ≡ before_slash l.text
