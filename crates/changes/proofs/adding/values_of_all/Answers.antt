use Rattle.changes.proofs.Words.{◌≡◌, true, ◌++◌, take, ap, sym, subst, ◌∙◌, flat_map, AllByRecursion, take_all, bound, bound_value, owned}
use Rattle.changes.proofs.Parts.{map_both, flat_more, all_more}
use Rattle.changes.proofs.adding.values_of_all.Goals as goal

pub loop-row-init : goal.loop-row-init
loop-row-init g c = (ap bound c.new-all.ensures.items, tt)

pub loop-row-preserved : goal.loop-row-preserved
loop-row-preserved g c =
    let cells = g.C.Chain.columns.cells in
    let columns = c.args.columns.now in
    let i = c.loop-row.row-index in
    let row = c.row-item.result in
    let before = c.loop-row.all.items in (
      ap bound c.in_ok-extend_from_slice.ensures.items ∙ map_both (λ v. bound_value (owned v)) before (take c.count.result c.values.result) ∙ ap (λ n. bound before ++ bound (take n c.values.result)) c.count.ensures
          ∙ (λ j. c.loop-row.invariant.0 j ++ c.values.ensures j) ∙ sym (flat_more cells columns i row c.loop-row-test.true c.row-item.is),
      all_more (λ x. g.C.Chain.columns.has 0 (cells x) ≡ true) columns i row c.loop-row-test.true c.row-item.is c.loop-row.invariant.1 c.is_stored.ensures,
    )

pub returns-clause-values : goal.returns-clause-values
returns-clause-values g c = c.loop-row.invariant.0 ∙ ap (flat_map g.C.Chain.columns.cells) (take_all _ c.args.columns.now c.loop-row-test.false)

pub returns-clause-rule : goal.returns-clause-rule
returns-clause-rule g c = subst (AllByRecursion (λ x. g.C.Chain.columns.has 0 (g.C.Chain.columns.cells x) ≡ true)) (take_all _ c.args.columns.now c.loop-row-test.false) c.loop-row.invariant.1
