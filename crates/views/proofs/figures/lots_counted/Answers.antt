use Rattle.views.proofs.Words.{◌≡◌, ◌∙◌, filter, is_in_house, lot_figures_seen}
use Rattle.views.proofs.figures.lots_counted.Goals as goal

pub returns : goal.returns
returns c =
    let rows = c.args.rows.now in
    let stock = c.in_ok-stock.ensures ∙ c.as_slice.ensures in
    let staged = c.in_ok-staged.ensures ∙ c.as_slice-2.ensures in
    let recalls = c.in_ok-recalls.ensures ∙ c.as_slice-3.ensures in
    let there : c.as_slice-4.result.now ≡ filter (is_in_house rows.stock rows.staged) rows.lots =
    c.as_slice-4.ensures.value ∙ c.in_ok-there.ensures ∙ (λ i. filter (is_in_house (stock i) (staged i)) (c.as_slice-lots.ensures i)) in
    c.lot_figures.ensures ∙ (λ i. lot_figures_seen c.args.day (recalls i) (there i))
