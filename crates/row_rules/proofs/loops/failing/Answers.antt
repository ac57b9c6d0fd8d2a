use Rattle.row_rules.proofs.Words.{arith, ap, ◌∙◌, ◌++◌, [], ◌∷◌, not, if◌then◌else◌}
use Rattle.row_rules.proofs.Walking.{kept_all, kept_more}
use Rattle.row_rules.proofs.loops.failing.Goals as goal

pub loop-element-preserved : goal.loop-element-preserved
loop-element-preserved g c =
    let a = c.args in
    let l = c.loop-element in
    let test = g.P.Test.test a.by.now in
    let wanted = not c.passes-passes.result in
    kept_more (λ x. not (test x)) a.elements.now l.element-index l.kept.items c.element-item.result c.push_if.new.rows.items wanted c.loop-element-test.true l.invariant
    (ap not (c.passes-passes.ensures ∙ ap test c.element-item.is))
    (c.in_ok-push_if.ensures ∙ ap (λ x. l.kept.items ++ (if wanted then x ∷ [] else [])) c.element-item.is)

pub returns : goal.returns
returns g c =
    let a = c.args in
    let l = c.loop-element in
    kept_all (λ x. not (g.P.Test.test a.by.now x)) a.elements.now l.element-index l.kept.items (omega arith) l.invariant
