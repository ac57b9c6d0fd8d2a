use Rattle.queries.proofs.Words.{rules, answers_always, CardRow}
use Rattle.queries.proofs.shipped.sort.Goals as goal

pub returns-clause-sorted : goal.returns-clause-sorted
returns-clause-sorted c = c.sort_unstable_by_key.ensures.sorted (λ (r : CardRow). r.act) (answers_always _ _ _ (λ f a r g h. search rules))
