use Rattle.views.proofs.Words.{◌≡◌, ◌∙◌, Bool, if◌then◌else◌, RecallRow, Recalled, Held, Expired, ShortDated, Free, is_lot, is_expired, is_short_dated, has_recall, any_given}
use Rattle.views.proofs.stock.status_of.Goals as goal

pub returns : goal.returns
returns c =
    let a = c.args in
    let row = a.row.now in
    let own : RecallRow → Bool = λ r. is_lot row.lot r.lot in
    let recalled : has_recall c.candidates.result.now row.lot ≡ has_recall a.recalls.now row.lot = any_given own own (λ r e. e) c.candidates.result.now a.recalls.now c.candidates.ensures in
    c.lot_status.ensures
    ∙ (λ i. if recalled i then Recalled else (if row.held then Held else (if is_expired a.day row.expiry then Expired else (if is_short_dated a.day (c.days.ensures.value i) row.expiry then ShortDated else Free))))
