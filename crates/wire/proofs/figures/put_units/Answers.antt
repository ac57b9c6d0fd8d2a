use Rattle.wire.proofs.Adding.{adds_one, one_added, adds_last}
use Rattle.wire.proofs.figures.put_units.Goals as goal

pub returns : goal.returns
returns c =
    adds_last c.end_object.result _ _ _ _ _ (one_added _ _ _ _ c.in_ok-begin_object.ensures)
    (adds_last c.end_object.result _ _ _ _ _ c.in_ok-put_count.ensures
    (adds_last c.end_object.result _ _ _ _ _ c.in_ok-put_count-2.ensures
    (adds_one c.end_object.result _ _ _ c.end_object.ensures)))
