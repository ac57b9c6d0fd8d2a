use Rattle.wire.proofs.Adding.{adds_one, one_added, adds_last}
use Rattle.wire.proofs.members.put_count.Goals as goal

pub returns : goal.returns
returns c = adds_last c.u64.result _ _ _ _ _ (one_added _ _ _ _ c.in_ok-key.ensures) (adds_one c.u64.result _ _ _ c.u64.ensures)
