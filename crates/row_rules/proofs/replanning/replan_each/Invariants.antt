use Rattle.row_rules.specs.Between.{replanned_between}
use Rattle.row_rules.proofs.GatheringShares.{AreGathered}
use Rattle.row_rules.proofs.replanning.replan_each.Given as goal

abbrev pub invariant-loop-gtin : goal.invariant-loop-gtin
invariant-loop-gtin l =
    AreGathered (λ g. (replanned_between l.before l.after g).put) (λ g. (replanned_between l.before l.after g).dropped) l.gtins l.gtin-index l.put.items l.dropped.items
