use Rattle.requests.proofs.Words.{◌≡◌, ◌+◌, drop, option_map, head_end}
use Rattle.requests.proofs.head.head_end.Given as goal

abbrev pub invariant-loop-i : goal.invariant-loop-i
invariant-loop-i l = head_end l.text ≡ option_map (λ n. n + l.i) (head_end (drop l.i l.text))
