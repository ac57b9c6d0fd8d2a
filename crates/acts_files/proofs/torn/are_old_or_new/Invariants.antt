use Rattle.std.proofs.Common.{◌≡◌, ◌⊎◌, ℕ, ◌<◌, get_or}
use Rattle.acts_files.proofs.torn.are_old_or_new.Given as goal

abbrev pub invariant-loop-i : goal.invariant-loop-i
invariant-loop-i l = (k : ℕ) → k < l.i → (get_or l.rest k 0 ≡ 0) ⊎ (get_or l.rest k 0 ≡ get_or l.lines k 0)
