use Rattle.views.proofs.Words.{◌≡◌, ◌∙◌, ◌&&◌, Bool, [], ap, same_text, ReservedRow, StagedRow, of_item, and_both, inserted, goes_first, filter_given, lots_seen, reserved_lots_seen, staged_lots_seen}
use Rattle.views.proofs.ShortByUnits.{short_by_own}
use Rattle.views.proofs.order.line_view.Goals as goal

pub returns : goal.returns
returns c =
    let m = c.args.found.now in
    let o = c.args.order.now in
    let l = c.args.line.now in
    let lots : c.in_ok-lots.lots.items ≡ lots_seen l.gtin m.lots = c.in_ok-lots.ensures ∙ ap (inserted goes_first []) c.candidates.ensures in
    let reserved = c.from_vec.ensures ∙ c.in_ok-lots_reserved.ensures ∙ ap (reserved_lots_seen m o.order) (c.as_slice.ensures.value ∙ lots) in
    let staged = c.from_vec-2.ensures ∙ c.in_ok-lots_staged.ensures ∙ ap (staged_lots_seen m.staged o.order) (c.as_slice-2.ensures.value ∙ lots) in
    let is_staged : StagedRow → Bool = λ r. same_text o.order r.order && of_item l.gtin r.lot in
    let is_reserved : ReservedRow → Bool = λ r. same_text o.order r.order && of_item l.gtin r.lot in
    let on_stage = c.candidates-staged.result.now in
    let taken = c.candidates-reserved.result.now in
    let short =
    c.short_by.ensures
    ∙ short_by_own o l on_stage m.staged taken m.reserved
    (filter_given is_staged (λ r. of_item l.gtin r.lot) (λ r e. (and_both (same_text o.order r.order) (of_item l.gtin r.lot) e).1) on_stage m.staged c.candidates-staged.ensures)
    (filter_given is_reserved (λ r. of_item l.gtin r.lot) (λ r e. (and_both (same_text o.order r.order) (of_item l.gtin r.lot) e).1) taken m.reserved c.candidates-reserved.ensures) in
    (λ i. record { gtin = l.gtin; ordered = l.ordered; reserved = reserved i; shipped = l.shipped; short = short i; staged = staged i; least = c.least_found.ensures i })
