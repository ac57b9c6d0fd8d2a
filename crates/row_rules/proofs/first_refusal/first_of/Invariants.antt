use Rattle.row_rules.proofs.Capping.{IsJudged}
use Rattle.row_rules.proofs.first_refusal.first_of.Given as goal

abbrev pub invariant-loop-holds : goal.invariant-loop-holds
invariant-loop-holds l = IsJudged l.conditions l.holds-index
