use Rattle.texts.proofs.Words.{◌+◌, ◌<◌, length, map, drop, sym, ap, ◌∙◌, length-map, Fields, lines_read}
use Rattle.texts.proofs.LinesRead.{with_front, goes_on, ends}
use Rattle.texts.proofs.command.order_lines.Goals as goal

pub returns-in_default : goal.returns-in_default
returns-in_default c =
    let f : Fields = map (λ f. f.now) c.args.fields.now in
    let low : c.loop-at.at < length f = rw length-map c.loop-at-test.true in
    sym (ends c.loop-at.lines.items f c.loop-at.at (lines_read (drop 3 f)) low (sym c.order_line.ensures ∙ c.in_default.is) c.loop-at.invariant)

pub loop-at-preserved : goal.loop-at-preserved
loop-at-preserved c =
    let f : Fields = map (λ f. f.now) c.args.fields.now in
    let low : c.loop-at.at < length f = rw length-map c.loop-at-test.true in
    ap (λ ls. with_front ls (lines_read (drop (c.loop-at.at + 2) f))) c.in_ok-push.ensures.items
    ∙ goes_on c.loop-at.lines.items c.in-Some.line f c.loop-at.at (lines_read (drop 3 f)) low (sym c.order_line.ensures ∙ c.in-Some.is) c.loop-at.invariant
