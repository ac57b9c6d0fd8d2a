use Rattle.wire.proofs.Adding.{adds_one, one_added, adds_last}
use Rattle.wire.proofs.picks.put_take.Goals as goal

pub returns : goal.returns
returns c =
    rw (c.as_slice.ensures, c.readable.ensures, c.as_slice-2.ensures, c.text-expiry.ensures, c.lot_text.ensures) at
    (adds_last c.end_object.result _ _ _ _ _ (one_added _ _ _ _ c.in_ok-begin_object.ensures)
    (adds_last c.end_object.result _ _ _ _ _ c.in_ok-put_list.ensures
    (adds_last c.end_object.result _ _ _ _ _ c.in_ok-put_text.ensures
    (adds_last c.end_object.result _ _ _ _ _ c.in_ok-put_text-2.ensures
    (adds_last c.end_object.result _ _ _ _ _ c.in_ok-put_count.ensures
    (adds_one c.end_object.result _ _ _ c.end_object.ensures))))))
