use Rattle.wire.proofs.Adding.{adds_one, one_added, adds_last}
use Rattle.wire.proofs.trace.put_trace.Goals as goal

pub returns : goal.returns
returns c =
    rw (c.as_slice.ensures, c.as_slice-2.ensures, c.readable.ensures, c.as_slice-3.ensures, c.text-expiry.ensures, c.gtin_text.ensures, c.lot_text.ensures, c.title_text.ensures, c.as_slice-4.ensures, c.as_slice-5.ensures, c.word.ensures) at
    (adds_last c.end_object.result _ _ _ _ _ (one_added _ _ _ _ c.in_ok-begin_object.ensures)
    (adds_last c.end_object.result _ _ _ _ _ c.in_ok-put_count.ensures
    (adds_last c.end_object.result _ _ _ _ _ c.in_ok-put_list.ensures
    (adds_last c.end_object.result _ _ _ _ _ c.in_ok-put_list-2.ensures
    (adds_last c.end_object.result _ _ _ _ _ c.in_ok-put_text.ensures
    (adds_last c.end_object.result _ _ _ _ _ c.in_ok-put_text-2.ensures
    (adds_last c.end_object.result _ _ _ _ _ c.in_ok-put_text-3.ensures
    (adds_last c.end_object.result _ _ _ _ _ c.in_ok-put_text-4.ensures
    (adds_last c.end_object.result _ _ _ _ _ c.in_ok-put_count-2.ensures
    (adds_last c.end_object.result _ _ _ _ _ c.in_ok-put_count-3.ensures
    (adds_last c.end_object.result _ _ _ _ _ c.in_ok-put_count-4.ensures
    (adds_last c.end_object.result _ _ _ _ _ c.in_ok-put_list-3.ensures
    (adds_last c.end_object.result _ _ _ _ _ c.in_ok-put_list-4.ensures
    (adds_last c.end_object.result _ _ _ _ _ c.in_ok-put_text-5.ensures
    (adds_one c.end_object.result _ _ _ c.end_object.ensures)))))))))))))))
