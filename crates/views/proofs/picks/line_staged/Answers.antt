use Rattle.views.proofs.Words.{◌∙◌, ◌&&◌, Bool, ap, if◌then◌else◌, same_text, StagedRow, of_item, and_both, capped, filter_given, total_given}
use Rattle.views.proofs.picks.line_staged.Goals as goal

pub returns : goal.returns
returns c =
    let m = c.args.found.now in
    let o = c.args.order.now in
    let l = c.args.line.now in
    let own : StagedRow → Bool = λ r. same_text o.order r.order && of_item l.gtin r.lot in
    let kept = filter_given own (λ r. of_item l.gtin r.lot) (λ r e. (and_both (same_text o.order r.order) (of_item l.gtin r.lot) e).1) c.candidates-staged.result.now m.staged c.candidates-staged.ensures in
    c.units_with.ensures ∙ ap capped (total_given (λ (r : StagedRow). if own r then r.qty else 0) own (λ r e. ap (λ b. if b then r.qty else 0) e) c.candidates-staged.result.now m.staged kept)
