use Rattle.rows_in_memory.proofs.Words.{◌≡◌, ◌&&◌, List, length, drop, sym, ap, subst, ◌∙◌, arith, drop-length, same_text, LineRow, has_line_row}
use Rattle.rows_in_memory.proofs.Stepping.{Losing, lost, loses_as, any_and_first}
use Rattle.rows_in_memory.proofs.lines.OpenLines.forget_order.Goals as goal

pub returns : goal.returns
returns c =
    let order = c.args.order.now in
    let lines = c.args.lines.now in
    let end : c.loop-line.line-index ≡ length lines = omega (arith, c.loop-line-test.false, c.loop-line.auto.line-index-end) in
    loses_as _ (λ g o. same_text o order && has_line_row lines g o) c.args.self.now c.loop-line.self (λ g o. sym (any_and_first {X = LineRow} (same_text o order) (λ r. same_text o r.order && same_text g r.gtin) lines))
    (lost {X = LineRow} (λ r g o. same_text o order && (same_text o r.order && same_text g r.gtin)) lines c.args.self.now c.loop-line.self
    (subst (λ (l : List LineRow). Losing {X = LineRow} (λ r g o. same_text o order && (same_text o r.order && same_text g r.gtin)) lines l c.args.self.now c.loop-line.self) (ap (λ n. drop n lines) end ∙ drop-length lines) c.loop-line.invariant))
