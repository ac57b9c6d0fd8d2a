use Rattle.rules.proofs.Words.{◌+◌, ◌∙◌, ◌-◌, capped, ship_card}
use Rattle.rules.proofs.shipments.CardShippedMakeStagedRowCardRow.make.Goals as goal

pub returns : goal.returns
returns c =
    let row = c.args.row.now in
    let units = c.saturating_add-units.ensures ∙ (λ i. capped (c.units-in_bins.ensures i + c.units-on_stages.ensures i)) in
    c.ship_card.ensures ∙ (λ i. record (ship_card c.args.self.now.slice.now row) { rest = units i - row.qty })
