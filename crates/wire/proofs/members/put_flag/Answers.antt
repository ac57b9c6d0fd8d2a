use Rattle.wire.proofs.Adding.{adds_one, one_added, adds_last}
use Rattle.wire.proofs.members.put_flag.Goals as goal

pub returns : goal.returns
returns c = adds_last c.boolean.result _ _ _ _ _ (one_added _ _ _ _ c.in_ok-key.ensures) (adds_one c.boolean.result _ _ _ c.boolean.ensures)
