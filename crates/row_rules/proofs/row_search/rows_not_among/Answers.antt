use Rattle.row_rules.proofs.Words.{Bool, arith, ap, ◌∙◌, ◌++◌, [], ◌∷◌, not, if◌then◌else◌, list_any}
use Rattle.row_rules.proofs.Walking.{kept_all, kept_more}
use Rattle.row_rules.proofs.row_search.rows_not_among.Goals as goal

pub loop-row-preserved : goal.loop-row-preserved
loop-row-preserved g c =
    let a = c.args in
    let l = c.loop-row in
    let among : g.row.K.Denot → Bool = λ k. list_any (λ o. g.K.Same.same k (g.O.Has.of_row o)) a.others.now in
    let test : g.row.R.Denot → Bool = λ r. not (among (g.R.Has.of_row r)) in
    let wanted : Bool = not c.has_row-there.result in
    kept_more test a.rows.now l.row-index l.left.items c.row-item.result c.push_if.new.rows.items wanted c.loop-row-test.true l.invariant
    (ap not (c.has_row-there.ensures ∙ ap among c.value.ensures) ∙ ap test c.row-item.is)
    (c.in_ok-push_if.ensures ∙ ap (λ r. l.left.items ++ (if wanted then r ∷ [] else [])) c.row-item.is)

pub returns : goal.returns
returns g c =
    let a = c.args in
    let l = c.loop-row in
    kept_all (λ r. not (list_any (λ o. g.K.Same.same (g.R.Has.of_row r) (g.O.Has.of_row o)) a.others.now)) a.rows.now l.row-index l.left.items (omega arith) l.invariant
