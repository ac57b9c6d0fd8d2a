use Rattle.rules.proofs.Words.{filter, StagedRow, same_items, is_out_among}
use Rattle.rules.proofs.expiring.staged_gone_on.Goals as goal

pub returns : goal.returns
returns c =
    let outs = c.in_ok-outs.ensures in
    same_items c.passing.result _ _ c.passing.ensures (λ i. filter (λ (r : StagedRow). is_out_among (outs i).lots (outs i).day (outs i).asked r.lot) (c.as_slice-rows.ensures i))
