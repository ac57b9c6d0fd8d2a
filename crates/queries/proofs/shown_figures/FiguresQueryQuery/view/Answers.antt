use Rattle.queries.proofs.Words.{refl, figures_shown, figures_view}
use Rattle.queries.proofs.FiguresRight.{figures_right}
use Rattle.queries.proofs.OpenRight.{view_told}
use Rattle.queries.proofs.shown_figures.FiguresQueryQuery.view.Goals as goal

pub returns : goal.returns
returns c first acts history is_day found =
    let read = figures_right first acts history c.args.found.0 c.args.found.1 found in
    view_told (figures_shown first acts) (figures_view first acts) refl c.figures_view-view.result (c.figures_view-view.ensures.shown first acts history read.count is_day read.are)
