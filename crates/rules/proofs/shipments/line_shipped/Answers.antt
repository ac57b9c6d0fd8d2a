use Rattle.rules.proofs.Words.{◌+◌, ap, ◌∙◌, ◌&&◌, if◌then◌else◌, same_text, of_item, StagedRow, and_turned, capped, total_agree}
use Rattle.rules.proofs.shipments.line_shipped.Goals as goal

pub returns : goal.returns
returns c =
    let r = c.args.row.now in
    let more =
    c.units-more.ensures
    ∙ ap capped (total_agree (λ (s : StagedRow). if of_item r.gtin s.lot && same_text r.order s.order then s.qty else 0) (λ s. if same_text r.order s.order && of_item r.gtin s.lot then s.qty else 0) (λ s. ap (λ b. if b then s.qty else 0) (and_turned (of_item r.gtin s.lot) (same_text r.order s.order))) c.args.staged.now) in
    let shipped = c.saturating_add.ensures ∙ ap (λ n. capped (r.shipped + n)) more in
    (λ i. record { order = r.order; gtin = r.gtin; ordered = r.ordered; shipped = shipped i })
