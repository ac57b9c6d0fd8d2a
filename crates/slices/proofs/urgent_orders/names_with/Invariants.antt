use Rattle.slices.proofs.Words.{◌≡◌, ◌++◌, drop, names_at}
use Rattle.slices.proofs.urgent_orders.names_with.Given as goal

-- the names so far, with those of the items that are left
abbrev pub invariant-loop-gtin : goal.invariant-loop-gtin
invariant-loop-gtin l = l.names.items ++ names_at l.known (drop l.gtin-index l.gtins) ≡ names_at l.known l.gtins
