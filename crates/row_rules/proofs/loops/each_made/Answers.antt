use Rattle.std.proofs.Common.{arith, ap, ◌∙◌, ◌++◌, [], ◌∷◌}
use Rattle.row_rules.proofs.Walking.{mapped_all, mapped_more}
use Rattle.row_rules.proofs.loops.each_made.Goals as goal

pub loop-element-preserved : goal.loop-element-preserved
loop-element-preserved g c =
    let a = c.args in
    let l = c.loop-element in
    let f = g.M.Make.made a.by.now in
    mapped_more f a.elements.now l.element-index l.made.items c.element-item.result c.push.new.self.items c.loop-element-test.true l.invariant
    (c.in_ok-push.ensures.items ∙ ap (λ y. l.made.items ++ y ∷ []) (c.in_ok-one.ensures ∙ ap f c.element-item.is))

pub returns : goal.returns
returns g c =
    let a = c.args in
    let l = c.loop-element in
    mapped_all (g.M.Make.made a.by.now) a.elements.now l.element-index l.made.items (omega arith) l.invariant
