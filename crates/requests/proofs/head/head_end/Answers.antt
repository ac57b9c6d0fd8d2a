use Rattle.requests.proofs.Words.{sym, ◌∙◌, ap, take, bytes_eq, BLANK_LINE}
use Rattle.requests.proofs.HeadEnds.{head_end_here, head_end_later}
use Rattle.requests.proofs.head.head_end.Goals as goal

pub loop-i-preserved : goal.loop-i-preserved
loop-i-preserved c =
    head_end_later c.args.text.now c.loop-i.i c.loop-i-test.true
    (ap (λ z. bytes_eq (take 4 z) BLANK_LINE) (sym c.split_at.ensures.back) ∙ sym c.is_blank_line.ensures.value ∙ c.if-is_blank_line.false)
    c.loop-i.invariant

pub returns-then-is_blank_line-clause-value : goal.returns-then-is_blank_line-clause-value
returns-then-is_blank_line-clause-value c =
    head_end_here c.args.text.now c.loop-i.i c.loop-i-test.true
    (ap (λ z. bytes_eq (take 4 z) BLANK_LINE) (sym c.split_at.ensures.back) ∙ sym c.is_blank_line.ensures.value ∙ c.if-is_blank_line.true)
    c.loop-i.invariant
