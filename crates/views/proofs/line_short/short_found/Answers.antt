use Rattle.views.proofs.Words.{◌∙◌}
use Rattle.views.proofs.ShortByUnits.{short_by_own}
use Rattle.views.proofs.line_short.short_found.Goals as goal

pub returns : goal.returns
returns c =
    let a = c.args in
    c.short_by.ensures ∙ short_by_own a.order.now a.line.now c.candidates-on_stage.result.now a.staged.now c.candidates-taken.result.now a.reserved.now c.candidates-on_stage.ensures c.candidates-taken.ensures
