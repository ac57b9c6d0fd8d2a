use Rattle.std.proofs.Common.{rules}
use Rattle.wire.proofs.WriteOut.{flushed}
use Rattle.wire.proofs.serving.write_bytes.Goals as goal

pub returns-in-Ok-clause-written : goal.returns-in-Ok-clause-written
returns-in-Ok-clause-written g c =
    let at = g.W.Write.contents in
    flushed c.flush.result (at c.args.writer.now) (at c.put.new.out) (at c.flush.new.writer) c.args.bytes.now c.in-Ok.ensures c.flush.ensures.kept

pub returns-in-Ok-clause-fault : goal.returns-in-Ok-clause-fault
returns-in-Ok-clause-fault c = search rules

pub returns-in-Err-clause-written : goal.returns-in-Err-clause-written
returns-in-Err-clause-written c = search rules

pub returns-in-Err-clause-fault : goal.returns-in-Err-clause-fault
returns-in-Err-clause-fault c = search rules
