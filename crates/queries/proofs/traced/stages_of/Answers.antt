use Rattle.queries.proofs.Words.{◌≡◌, ◌+◌, List, [], ◌∷◌, drop, sym, ap, subst, ◌∙◌, arith, drop_more, drop_all, StagedRow}
use Rattle.overviews.specs.declared.trace.StagedUnits.{StagedUnits}
use Rattle.queries.specs.Traced.{IsStaged}
use Rattle.queries.proofs.Telling.{AreToldYet, none_yet, one_more, none_told, all_told}
use Rattle.queries.proofs.traced.stages_of.Goals as goal

pub loop-row-init : goal.loop-row-init
loop-row-init c = rw c.new-told.ensures.items (none_yet (IsStaged c.args.orders.now) c.args.staged.now)

pub returns-in-None : goal.returns-in-None
returns-in-None c =
    let orders = c.args.orders.now in
    let rows = c.args.staged.now in
    let i = c.loop-row.row-index in
    let row = c.row-item.result in
    let left_is : drop i rows ≡ row ∷ drop (i + 1) rows = drop_more rows i row (omega arith) ∙ ap (λ (x : StagedRow). x ∷ drop (i + 1) rows) (sym c.row-item.is) in
    none_told (IsStaged orders) rows row (drop (i + 1) rows) c.loop-row.told.items (subst (λ (left : List StagedRow). AreToldYet (IsStaged orders) rows left c.loop-row.told.items) left_is c.loop-row.invariant) (λ u tells. sym c.in-None.is ∙ c.stage_of.ensures u tells)

pub loop-row-preserved : goal.loop-row-preserved
loop-row-preserved c =
    let orders = c.args.orders.now in
    let rows = c.args.staged.now in
    let i = c.loop-row.row-index in
    let row = c.row-item.result in
    let left_is : drop i rows ≡ row ∷ drop (i + 1) rows = drop_more rows i row (omega arith) ∙ ap (λ (x : StagedRow). x ∷ drop (i + 1) rows) (sym c.row-item.is) in
    subst (λ (xs : List StagedUnits). AreToldYet (IsStaged orders) rows (drop (i + 1) rows) xs) (sym c.in_ok-push-in-Some.ensures.items)
    (one_more (IsStaged orders) rows row (drop (i + 1) rows) c.loop-row.told.items c.in-Some.units (subst (λ (left : List StagedRow). AreToldYet (IsStaged orders) rows left c.loop-row.told.items) left_is c.loop-row.invariant) (λ u tells. sym c.in-Some.is ∙ c.stage_of.ensures u tells))

pub returns : goal.returns
returns c =
    let orders = c.args.orders.now in
    let rows = c.args.staged.now in
    let none : drop c.loop-row.row-index rows ≡ [] = drop_all c.loop-row.row-index rows (omega arith) in
    all_told (IsStaged orders) rows c.loop-row.told (subst (λ (left : List StagedRow). AreToldYet (IsStaged orders) rows left c.loop-row.told.items) none c.loop-row.invariant)
