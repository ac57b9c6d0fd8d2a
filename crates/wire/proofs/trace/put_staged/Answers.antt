use Rattle.wire.proofs.Adding.{adds_one, one_added, adds_last}
use Rattle.wire.proofs.trace.put_staged.Goals as goal

pub returns : goal.returns
returns c =
    rw (c.title_text.ensures, c.name_text.ensures) at
    (adds_last c.end_object.result _ _ _ _ _ (one_added _ _ _ _ c.in_ok-begin_object.ensures)
    (adds_last c.end_object.result _ _ _ _ _ c.in_ok-put_text.ensures
    (adds_last c.end_object.result _ _ _ _ _ c.in_ok-put_text-2.ensures
    (adds_last c.end_object.result _ _ _ _ _ c.in_ok-put_count.ensures
    (adds_one c.end_object.result _ _ _ c.end_object.ensures)))))
