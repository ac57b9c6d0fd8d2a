use Rattle.std.proofs.Common.{arith}
use Rattle.clap.specs.Simple.{app_of}
use Rattle.command_line.proofs.Telling.{line_added}
use Rattle.command_line.proofs.words.with_lines.Goals as goal

pub loop-line-preserved : goal.loop-line-preserved
loop-line-preserved c =
    line_added c.args.lines.now c.loop-line.line-index _ (app_of c.loop-line.program) _ _ (omega arith) c.loop-line.invariant (c.in_ok-program.ensures _ c.subcommand.ensures)
