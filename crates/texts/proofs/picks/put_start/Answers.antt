use Rattle.texts.proofs.Words.{◌++◌, ◌∷◌, [], codes, Appends-trans, line, order_state_word}
use Rattle.texts.proofs.Beginnings.{cut_at, beginning_of_first, beginning_of_second, writes_behind}
use Rattle.texts.proofs.picks.put_start.Goals as goal

pub returns-in_err-put_line : goal.returns-in_err-put_line
returns-in_err-put_line g c =
    let at = g.W.Write.contents in
    let order = c.args.order.now in
    let first = line (codes "PICK LIST" ∷ order.order ∷ []) in
    let second = line (codes "CUSTOMER" ∷ order.customer ∷ []) in
    let third = line (codes "STATE" ∷ order_state_word order.state ∷ []) in
    cut_at c.from_residual.result (at c.args.out.now) (at c.put_line.new.out) ((first ++ second) ++ third) c.from_residual.ensures.0
    (beginning_of_first (at c.args.out.now) (at c.put_line.new.out) (first ++ second) third
    (beginning_of_first (at c.args.out.now) (at c.put_line.new.out) first second (rw c.as_bytes.ensures.text at c.in_err-put_line.ensures)))

pub returns-in_err-put_line-2 : goal.returns-in_err-put_line-2
returns-in_err-put_line-2 g c =
    let at = g.W.Write.contents in
    let order = c.args.order.now in
    let first = line (codes "PICK LIST" ∷ order.order ∷ []) in
    let second = line (codes "CUSTOMER" ∷ order.customer ∷ []) in
    let third = line (codes "STATE" ∷ order_state_word order.state ∷ []) in
    cut_at c.from_residual-in_err-put_line-2.result (at c.args.out.now) (at c.put_line-2.new.out) ((first ++ second) ++ third) c.from_residual-in_err-put_line-2.ensures.0
    (beginning_of_first (at c.args.out.now) (at c.put_line-2.new.out) (first ++ second) third
    (beginning_of_second (at c.args.out.now) (at c.put_line.new.out) (at c.put_line-2.new.out) first second
    (rw c.as_bytes.ensures.text at c.in_ok-put_line.ensures) (rw c.as_bytes-2.ensures.text at c.in_err-put_line-2.ensures)))

pub returns : goal.returns
returns g c =
    let at = g.W.Write.contents in
    let order = c.args.order.now in
    let first = line (codes "PICK LIST" ∷ order.order ∷ []) in
    let second = line (codes "CUSTOMER" ∷ order.customer ∷ []) in
    let third = line (codes "STATE" ∷ order_state_word order.state ∷ []) in
    writes_behind c.put_line-3.result (at c.args.out.now) (at c.put_line-2.new.out) (at c.put_line-3.new.out) (first ++ second) third
    (Appends-trans (at c.args.out.now) (at c.put_line.new.out) (at c.put_line-2.new.out) first second
    (rw c.as_bytes.ensures.text at c.in_ok-put_line.ensures) (rw c.as_bytes-2.ensures.text at c.in_ok-put_line-2.ensures))
    (rw (c.as_bytes-3.ensures.value, c.word.ensures) at c.put_line-3.ensures)
