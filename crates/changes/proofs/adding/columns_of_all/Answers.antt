use Rattle.changes.proofs.Words.{◌++◌, [], ◌∷◌, take, ap, sym, ◌∙◌, map, take_all}
use Rattle.changes.proofs.Parts.{map_more}
use Rattle.changes.proofs.adding.columns_of_all.Goals as goal

pub loop-row-preserved : goal.loop-row-preserved
loop-row-preserved g c =
    let f = g.T.AddedMany.columns_of in
    c.in_ok-push.ensures.items ∙ ap (λ xs. xs ++ c.columns.result ∷ []) c.loop-row.invariant ∙ ap (λ x. map f (take c.loop-row.row-index c.args.rows.now) ++ x ∷ []) c.columns.ensures ∙ sym (map_more f c.args.rows.now c.loop-row.row-index c.row-item.result c.loop-row-test.true c.row-item.is)

pub returns : goal.returns
returns g c = c.loop-row.invariant ∙ ap (map g.T.AddedMany.columns_of) (take_all _ c.args.rows.now c.loop-row-test.false)
