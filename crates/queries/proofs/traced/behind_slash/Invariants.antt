use Rattle.queries.proofs.Words.{◌≡◌, drop}
use Rattle.queries.specs.Traced.{behind_slash}
use Rattle.queries.proofs.traced.behind_slash.Given as goal

abbrev pub invariant-loop-i : goal.invariant-loop-i
invariant-loop-i l = behind_slash (drop l.i l.text) ≡ behind_slash l.text
