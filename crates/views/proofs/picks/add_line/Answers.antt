use Rattle.views.proofs.Words.{◌≡◌, ◌++◌, [], List, subst, option_map, OnOk, cons_option, with_item}
use Rattle.overviews.specs.declared.picks.PickLine.{PickLine}
use Rattle.views.proofs.picks.add_line.Goals as goal

pub returns : goal.returns
returns c =
    let a = c.args in
    subst (λ (xs : List PickLine). OnOk c.push_line.result (c.push_line.new.lines.items ≡ a.lines.now.items ++ xs))
    (λ i. cons_option (option_map (with_item (c.line_staged-staged.ensures i) (c.in_ok-line.ensures i)) (c.find.ensures i)) []) c.push_line.ensures
