use Rattle.texts.proofs.Words.{codes, ◌++◌, head_line, lot_line}
use Rattle.texts.proofs.Beginnings.{cut_at, beginning_of_first, writes_behind}
use Rattle.texts.proofs.notice.put_start.Goals as goal

pub returns-in_err-put_head : goal.returns-in_err-put_head
returns-in_err-put_head g c =
    let at = g.W.Write.contents in
    let view = c.args.lot.now in
    let head = head_line (codes "RECALL NOTICE") view.item in
    let lot = lot_line view.lot view.expiry in
    cut_at c.from_residual.result (at c.args.out.now) (at c.put_head.new.out) (head ++ lot) c.from_residual.ensures.0 (beginning_of_first (at c.args.out.now) (at c.put_head.new.out) head lot c.in_err-put_head.ensures)

pub returns : goal.returns
returns g c =
    let at = g.W.Write.contents in
    let view = c.args.lot.now in
    writes_behind c.put_lot.result (at c.args.out.now) (at c.put_head.new.out) (at c.put_lot.new.out) (head_line (codes "RECALL NOTICE") view.item) (lot_line view.lot view.expiry) c.in_ok-put_head.ensures c.put_lot.ensures
