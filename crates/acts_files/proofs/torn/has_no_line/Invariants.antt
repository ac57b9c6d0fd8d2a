use Rattle.std.proofs.Common.{◌≢◌, ℕ, ◌<◌, get_or}
use Rattle.acts_files.proofs.torn.has_no_line.Given as goal

abbrev pub invariant-loop-i : goal.invariant-loop-i
invariant-loop-i l = (k : ℕ) → k < l.i → (get_or l.rest k 0 ≢ 0) × (get_or l.rest k 0 ≢ 10)
