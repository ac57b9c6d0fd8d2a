use Rattle.std.proofs.Common.{inr}
use Rattle.command_line.specs.Ends.{IsEndOf}
use Rattle.command_line.proofs.Ending.{flushed}
use Rattle.command_line.proofs.running.do_line.Goals as goal

pub returns-in-Ok : goal.returns-in-Ok
returns-in-Ok g c =
    let out = g.W.Write.contents in
    let log = g.L.Write.contents in
    let done = c.end_line-left in
    let flush = c.flush_done in
    inr (
      c.in-Ok.line,
      (c.in-Ok.ensures.fails, c.in-Ok.ensures.read),
      out done.new.out,
      flush.ensures.kept,
      flushed (λ e. IsEndOf (g.B.BooksAt.ends c.args.books) (out c.args.out.now) (out done.new.out) (log c.args.log.now) (log done.new.log) c.in-Ok.line e done.result.0)
          done.result.1 flush.result flush.ensures.fault flush.ensures.done done.ensures,
    )
