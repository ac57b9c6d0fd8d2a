use Rattle.slices.proofs.Words.{sym, arith, ◌∙◌}
use Rattle.std.proofs.lemmas.Grind.{common_steps}
use Rattle.slices.proofs.LinesFilled.{filled_more}
use Rattle.slices.proofs.order_filled.are_filled.Goals as goal

pub loop-at-preserved : goal.loop-at-preserved
loop-at-preserved c =
    filled_more c.args.lines.now c.args.put.now c.loop-at.at c.index-lines-at.result c.index-put-at.result (grind (arith, common_steps)) (grind (arith, common_steps)) (grind (arith, common_steps)) (grind (arith, common_steps)) (sym c.is_filled.ensures ∙ c.if-not-is_filled.false) c.loop-at.invariant
