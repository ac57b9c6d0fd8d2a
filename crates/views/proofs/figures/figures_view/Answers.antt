use Rattle.views.proofs.Words.{◌≡◌, ◌∙◌, ap, sym, ℕ, ℤ, length, units_counted, figures_seen}
use Rattle.views.proofs.FiguresShown.{figures_right}
use Rattle.views.proofs.figures.figures_view.Goals as goal

pub returns-clause-shown : goal.returns-clause-shown
returns-clause-shown c =
    let a = c.args in
    let rows = a.rows.now in
    let units : c.in_ok-units.units ≡ units_counted rows.stock rows.staged = c.in_ok-units.ensures ∙ (λ i. units_counted (c.as_slice.ensures i) (c.as_slice-2.ensures i)) in
    λ first acts history act day are.
    (λ i. record { act = a.act; day = a.day; lots = c.in_ok-lots.ensures i; open_orders = c.in_ok-open_orders.ensures i; units = units i })
    ∙ ap (λ (n : ℕ). figures_seen n a.day rows) (sym act)
    ∙ ap (λ (d : ℤ). figures_seen (length acts) d rows) (sym day)
    ∙ figures_right first acts history rows are
