use Rattle.rules.proofs.Words.{filter, LotRow, same_items, is_out_among}
use Rattle.rules.proofs.expiring.lots_out.Goals as goal

pub returns : goal.returns
returns c =
    let outs = c.in_ok-outs.ensures in
    same_items c.passing.result _ _ c.passing.ensures (λ i. filter (λ (r : LotRow). is_out_among (outs i).lots (outs i).day (outs i).asked r.lot) (c.as_slice-rows.ensures i))
