use Rattle.queries.proofs.Words.{UnknownOrder, order_named, picks_view}
use Rattle.queries.proofs.KnownTold.{known_told}
use Rattle.queries.proofs.PicksRight.{picks_right}
use Rattle.queries.proofs.shown_picks.PicksQueryQuery.view.Goals as goal

pub returns : goal.returns
returns c first acts history is_day found =
    let order = c.args.self.now.order in
    let one = picks_right first acts order c.args.found.0 c.args.found.1.0 c.args.found.1.1 found in
    known_told UnknownOrder (picks_view first acts) (order_named acts order) one.read.p one.read.named c.picks_view-view.result
    (c.picks_view-view.ensures.shown first acts one.read.p history one.read.own one.read.table one.read.shown (rw c.as_slice.ensures.value one.named))
