use Rattle.rules.proofs.Words.{◌∙◌, ◌-◌, map, StagedRow, same_items, lot_units, ship_card}
use Rattle.rules.proofs.shipments.ship_cards.Goals as goal

pub returns : goal.returns
returns c =
    let s = c.args.slice.now in
    let stock = c.in_ok-stock.ensures ∙ c.as_slice.ensures in
    let staged = c.in_ok-staged.ensures ∙ c.as_slice-2.ensures in
    same_items c.each_made.result _ _ c.each_made.ensures (λ i. map (λ (r : StagedRow). record (ship_card s r) { rest = lot_units r.lot (stock i) (staged i) - r.qty }) c.args.rows.now)
