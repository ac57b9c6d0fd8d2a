use Rattle.std.proofs.Common.{◌≡◌, ◌+◌, ◌*◌, ◌≤◌, length, drop}
use Rattle.values.specs.Values.{weighted_sum}
use Rattle.values.proofs.gtin.weighted.Given as goal

abbrev pub invariant-loop-c : goal.invariant-loop-c
invariant-loop-c l = (l.sum + weighted_sum l.weight (drop l.c-index l.text) ≡ weighted_sum 3 l.text) × (l.sum ≤ 1000 * l.c-index) × (1 ≤ l.weight) × (l.weight ≤ 3) × (length l.text ≤ 14)
