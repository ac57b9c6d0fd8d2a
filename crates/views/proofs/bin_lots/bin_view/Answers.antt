use Rattle.views.proofs.Words.{◌≡◌, ap, sym, ◌∙◌, ℕ, ℤ, length, today, page, goes_on, bin_lot_seen, bin_seen, all_found}
use Rattle.views.proofs.BinShown.{bin_shown}
use Rattle.views.proofs.bin_lots.bin_view.Goals as goal

pub returns-clause-shown : goal.returns-clause-shown
returns-clause-shown c =
    let a = c.args in
    let rows = a.rows.now in
    let bin = a.bin.now in
    let lots : c.from_vec.result ≡ all_found (bin_lot_seen a.day bin.name rows) (page a.found.now) = c.from_vec.ensures ∙ c.in_ok-lots.ensures ∙ ap (all_found (bin_lot_seen a.day bin.name rows)) c.page_of.ensures in
    λ first acts last history act day found are.
    (λ i. record { act = a.act; bin = bin.name; kind = bin.kind; lots = lots i; more = goes_on a.found.now })
    ∙ ap (λ (n : ℕ). bin_seen n a.day bin rows a.found.now) (sym act)
    ∙ ap (λ (d : ℤ). bin_seen (length acts) d bin rows a.found.now) (sym day)
    ∙ ap (bin_seen (length acts) (today first acts) bin rows) found
    ∙ bin_shown first acts history bin last rows are
