use Rattle.rules.proofs.Words.{ℕ, ◌+◌, ◌++◌, List, min, ap, ◌∙◌, arith, OrderLine, ReservedRow, CAP, line_put, line_short, booked_more, booked_put, booked_short}
use Rattle.rules.proofs.booking.book_each.Goals as goal

pub loop-line-preserved : goal.loop-line-preserved
loop-line-preserved c =
    let a = c.args in
    let l = c.loop-line in
    let f : OrderLine → List ReservedRow = line_put a.slice.now a.order.now in
    let h : OrderLine → ℕ = line_short a.slice.now in
    let booked = c.in_ok-booked.ensures in
    booked_more f h a.lines.now l.line-index l.put.items l.short c.line-item.result c.extend_from_slice.new.self.items c.saturating_add-short.result c.loop-line-test.true
    l.invariant
    (c.in_ok-extend_from_slice.ensures.items ∙ ap (λ ys. l.put.items ++ ys) (c.as_slice.ensures ∙ booked.put ∙ ap f c.line-item.is))
    (c.saturating_add-short.ensures ∙ ap (λ n. min (l.short + n) CAP) (booked.short ∙ ap h c.line-item.is))

pub returns-clause-put : goal.returns-clause-put
returns-clause-put c =
    let a = c.args in
    let l = c.loop-line in
    let f : OrderLine → List ReservedRow = line_put a.slice.now a.order.now in
    let h : OrderLine → ℕ = line_short a.slice.now in
    c.from_vec.ensures ∙ booked_put f h a.lines.now l.line-index l.put.items l.short (omega arith) l.invariant

pub returns-clause-short : goal.returns-clause-short
returns-clause-short c =
    let a = c.args in
    let l = c.loop-line in
    let f : OrderLine → List ReservedRow = line_put a.slice.now a.order.now in
    let h : OrderLine → ℕ = line_short a.slice.now in
    booked_short f h a.lines.now l.line-index l.put.items l.short (omega arith) l.invariant
