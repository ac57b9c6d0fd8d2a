use Rattle.whole_tables.proofs.Words.{◌≡◌, is_lt, rules, ranks_by, answers_always}
use Rattle.whole_tables.proofs.differing.sort.Goals as goal

pub returns-clause-sorted : goal.returns-clause-sorted
returns-clause-sorted g c =
    let key = g.T.Table.table.key in
    let order = g.T.Entire.order in
    c.sort_unstable_by.ensures.sorted (λ a b. is_lt (order (key a) (key b))) (ranks_by g.met.T.Entire.compared_laws.total key)
    (answers_always _ (λ a r. is_lt r ≡ is_lt (order (key a.0.now) (key a.1.0.now))) _ (λ f a r q k. search rules))
