use Rattle.texts.proofs.Words.{◌++◌, flat_map, Appends-trans, total, notice_start, bin_line, shipment_line, notice_end}
use Rattle.texts.proofs.Beginnings.{cut_at, beginning_of_first, beginning_of_second, writes_behind}
use Rattle.texts.proofs.notice.recall_notice.Goals as goal

pub returns-in_err-put_start : goal.returns-in_err-put_start
returns-in_err-put_start g c =
    let at = g.W.Write.contents in
    let v = c.args.lot.now in
    let old = at c.args.out.now in
    let new = at c.put_start.new.out in
    let start = notice_start v.item v.lot v.expiry in
    let bins = flat_map bin_line v.bins in
    let shipments = flat_map shipment_line v.shipments in
    let end = notice_end (total (λ u. u.qty) v.bins) (total (λ s. s.qty) v.shipments) in
    cut_at c.from_residual-in_err-put_start.result old new (((start ++ bins) ++ shipments) ++ end) c.from_residual-in_err-put_start.ensures.0
    (beginning_of_first old new ((start ++ bins) ++ shipments) end (beginning_of_first old new (start ++ bins) shipments (beginning_of_first old new start bins c.in_err-put_start.ensures)))

pub returns-in_err-put_bins : goal.returns-in_err-put_bins
returns-in_err-put_bins g c =
    let at = g.W.Write.contents in
    let v = c.args.lot.now in
    let old = at c.args.out.now in
    let started = at c.put_start.new.out in
    let new = at c.put_bins.new.out in
    let start = notice_start v.item v.lot v.expiry in
    let bins = flat_map bin_line v.bins in
    let shipments = flat_map shipment_line v.shipments in
    let end = notice_end (total (λ u. u.qty) v.bins) (total (λ s. s.qty) v.shipments) in
    cut_at c.from_residual-in_err-put_bins.result old new (((start ++ bins) ++ shipments) ++ end) c.from_residual-in_err-put_bins.ensures.0
    (beginning_of_first old new ((start ++ bins) ++ shipments) end
    (beginning_of_first old new (start ++ bins) shipments (beginning_of_second old started new start bins c.in_ok-put_start.ensures (rw c.as_slice-3.ensures at c.in_err-put_bins.ensures))))

pub returns-in_err-put_shipments : goal.returns-in_err-put_shipments
returns-in_err-put_shipments g c =
    let at = g.W.Write.contents in
    let v = c.args.lot.now in
    let old = at c.args.out.now in
    let started = at c.put_start.new.out in
    let binned = at c.put_bins.new.out in
    let new = at c.put_shipments.new.out in
    let start = notice_start v.item v.lot v.expiry in
    let bins = flat_map bin_line v.bins in
    let shipments = flat_map shipment_line v.shipments in
    let end = notice_end (total (λ u. u.qty) v.bins) (total (λ s. s.qty) v.shipments) in
    cut_at c.from_residual-in_err-put_shipments.result old new (((start ++ bins) ++ shipments) ++ end) c.from_residual-in_err-put_shipments.ensures.0
    (beginning_of_first old new ((start ++ bins) ++ shipments) end
    (beginning_of_second old binned new (start ++ bins) shipments (Appends-trans old started binned start bins c.in_ok-put_start.ensures (rw c.as_slice-3.ensures at c.in_ok-put_bins.ensures))
    (rw c.as_slice-4.ensures at c.in_err-put_shipments.ensures)))

pub returns : goal.returns
returns g c =
    let at = g.W.Write.contents in
    let v = c.args.lot.now in
    let old = at c.args.out.now in
    let started = at c.put_start.new.out in
    let binned = at c.put_bins.new.out in
    let listed = at c.put_shipments.new.out in
    let start = notice_start v.item v.lot v.expiry in
    let bins = flat_map bin_line v.bins in
    let shipments = flat_map shipment_line v.shipments in
    let end = notice_end (total (λ u. u.qty) v.bins) (total (λ s. s.qty) v.shipments) in
    writes_behind c.put_end.result old listed (at c.put_end.new.out) ((start ++ bins) ++ shipments) end
    (Appends-trans old binned listed (start ++ bins) shipments (Appends-trans old started binned start bins c.in_ok-put_start.ensures (rw c.as_slice-3.ensures at c.in_ok-put_bins.ensures))
    (rw c.as_slice-4.ensures at c.in_ok-put_shipments.ensures))
    (rw (c.in_ok-in_bins.ensures, c.in_ok-shipped.ensures, c.as_slice.ensures, c.as_slice-2.ensures) at c.put_end.ensures)
