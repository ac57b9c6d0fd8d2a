use Rattle.wire.proofs.Adding.{adds_one, adds_last}
use Rattle.wire.proofs.picks.put_rest_of_takes.Goals as goal

pub returns : goal.returns
returns c = adds_last c.end_array.result _ _ _ _ _ c.in_ok-put_each_take.ensures (adds_one c.end_array.result _ _ _ c.end_array.ensures)
