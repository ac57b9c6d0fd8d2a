use Rattle.std.proofs.Common.{arith, ap, ◌∙◌, ◌++◌, [], ◌∷◌}
use Rattle.row_rules.proofs.Walking.{mapped_all, mapped_more}
use Rattle.row_rules.proofs.row_search.values_of.Goals as goal

pub loop-row-preserved : goal.loop-row-preserved
loop-row-preserved g c =
    let a = c.args in
    let l = c.loop-row in
    let f = g.R.Has.of_row in
    mapped_more f a.rows.now l.row-index l.values.items c.row-item.result c.push.new.self.items c.loop-row-test.true l.invariant
    (c.in_ok-push.ensures.items ∙ ap (λ y. l.values.items ++ y ∷ []) (c.value.ensures ∙ ap f c.row-item.is))

pub returns : goal.returns
returns g c =
    let a = c.args in
    let l = c.loop-row in
    mapped_all g.R.Has.of_row a.rows.now l.row-index l.values.items (omega arith) l.invariant
