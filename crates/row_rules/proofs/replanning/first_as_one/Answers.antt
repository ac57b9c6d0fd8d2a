use Rattle.plan.proofs.Keeping.{first_fit}
use Rattle.row_rules.proofs.replanning.first_as_one.Goals as goal

pub sum_of_needs-requires : goal.sum_of_needs-requires
sum_of_needs-requires c = first_fit _ _ c.requires.small
