use Rattle.wire.proofs.Adding.{adds_one, adds_last}
use Rattle.wire.proofs.members.put_rest.Goals as goal

pub returns : goal.returns
returns g c = adds_last c.end_array.result _ _ _ _ _ c.in_ok-put_each.ensures (adds_one c.end_array.result _ _ _ c.end_array.ensures)
