use Rattle.row_rules.proofs.Words.{ap, ◌∙◌, SUM_MAX, demands_within}
use Rattle.row_rules.proofs.Making.{same_items}
use Rattle.row_rules.proofs.indexed.demands_of_item.Goals as goal

pub returns-clause-told : goal.returns-clause-told
returns-clause-told c = same_items c.cut_demands.result _ _ c.cut_demands.ensures.cut (ap (demands_within SUM_MAX) (c.as_slice.ensures.value ∙ c.in_ok-demands.ensures))
