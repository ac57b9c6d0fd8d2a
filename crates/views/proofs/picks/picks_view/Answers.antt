use Rattle.views.proofs.Words.{◌≡◌, ◌∙◌, ap, all_found, lines_seen, pick_line_seen}
use Rattle.views.proofs.PicksShown.{rows_show_picks}
use Rattle.views.proofs.picks.picks_view.Goals as goal

pub returns-clause-shown : goal.returns-clause-shown
returns-clause-shown c =
    let rows = c.args.rows.now in
    let items = c.args.items.now in
    let order = c.args.order.now in
    let own : c.as_slice-2.result.now ≡ lines_seen order.order rows.lines = c.as_slice-2.ensures.value ∙ c.in_ok-lines.ensures ∙ ap (lines_seen order.order) c.as_slice.ensures in
    let lines : c.from_vec.result ≡ all_found (pick_line_seen rows items order) (lines_seen order.order rows.lines) =
    c.from_vec.ensures ∙ c.in_ok-shown.ensures ∙ ap (all_found (pick_line_seen rows items order)) own in
    λ first acts p history named table are items_are.
    (λ i. record { customer = order.customer; lines = lines i; order = order.order; state = order.state }) ∙ rows_show_picks first acts p rows items order history named table are items_are
