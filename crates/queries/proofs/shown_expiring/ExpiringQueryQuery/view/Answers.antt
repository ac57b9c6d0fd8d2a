use Rattle.queries.proofs.Words.{◌∙◌, expiring_view, expiring_shown}
use Rattle.queries.proofs.OpenRight.{view_told}
use Rattle.queries.proofs.ExpiringRight.{expiring_right}
use Rattle.queries.proofs.shown_expiring.ExpiringQueryQuery.view.Goals as goal

pub returns : goal.returns
returns c first acts history is_day found =
    let query = c.args.self.now in
    let read = expiring_right first acts history query.day query.behind c.args.found.0 c.args.found.1.0.items c.args.found.1.1 found in
    view_told (expiring_shown first acts query.day query.behind) (expiring_view first acts query.day read.last) read.told c.expiring_view-view.result
    (c.expiring_view-view.ensures.shown first acts query.day read.last history read.count is_day (c.as_slice.ensures.value ∙ read.is_page) read.of_page)
