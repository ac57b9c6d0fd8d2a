use Rattle.std.proofs.Common.{rules}
use Rattle.label.proofs.expiry.full_year.Goals as goal

pub returns-clause-value : goal.returns-clause-value
returns-clause-value c = search rules

pub returns-clause-bound : goal.returns-clause-bound
returns-clause-bound c = search rules

pub overflow_sub-first : goal.overflow_sub-first
overflow_sub-first c = search rules

pub overflow_add-result : goal.overflow_add-result
overflow_add-result c = search rules

pub overflow_sub-result : goal.overflow_sub-result
overflow_sub-result c = search rules
