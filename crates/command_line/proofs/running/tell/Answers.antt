use Rattle.command_line.proofs.Ending.{begun}
use Rattle.command_line.proofs.running.tell.Goals as goal

pub returns-clause-told : goal.returns-clause-told
returns-clause-told g c =
    let at = g.E.Write.contents in
    begun c.put.result (at c.args.err.now) (at c.put.new.out) _ (rw (c.as_bytes.ensures, c.line.ensures) at c.put.ensures)
