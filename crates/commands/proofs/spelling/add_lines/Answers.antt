use Rattle.std.proofs.Common.{arith}
use Rattle.commands.proofs.Appending.{lines_more}
use Rattle.commands.proofs.spelling.add_lines.Goals as goal

pub loop-line-preserved : goal.loop-line-preserved
loop-line-preserved c =
    let e = lines_more c.args.text.now.items c.args.lines.now c.loop-line.line-index c.line-item.result (omega arith) c.line-item.is in
    grind (arith, e)
