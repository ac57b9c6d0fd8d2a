use Rattle.queries.proofs.Words.{◌≡◌, ap, ◌∙◌, bins_seen}
use Rattle.queries.proofs.NoticeRight.{told_by, none_missing}
use Rattle.queries.proofs.shown_notice.NoticeQueryQuery.view.Goals as goal

pub returns-in-Some : goal.returns-in-Some
returns-in-Some c first acts history is_day found =
    let l = c.args.self.now.lot in
    let rows = c.args.found in
    let bins : c.from_vec.result ≡ bins_seen rows.stock.items l = c.from_vec.ensures ∙ c.in_ok-bins.ensures ∙ ap (λ stock. bins_seen stock l) c.as_slice.ensures.value in
    told_by first acts l history rows found c.in-Some.shipments c.in-Some.is c.from_vec.result c.from_vec-in-Some.result bins c.from_vec-in-Some.ensures

pub returns : goal.returns
returns c first acts history is_day found = absurd (none_missing first acts c.args.self.now.lot history c.args.found found c.in-None.is)
