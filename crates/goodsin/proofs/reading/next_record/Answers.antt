use Rattle.goodsin.proofs.Steps.{more, other}
use Rattle.goodsin.proofs.reading.next_record.Goals as goal

pub returns-in-Ok-clause-next : goal.returns-in-Ok-clause-next
returns-in-Ok-clause-next g c = λ found text rows h.
    let read = c.in-Ok.ensures.reads c.requires.0 c.requires.1 in
    more g.R.Read.remaining c.args.reader.now c.read_byte_record.new.self _ text rows c.requires.2 (rw found at read) h

pub returns-in-Err-clause-other : goal.returns-in-Err-clause-other
returns-in-Err-clause-other g c = rw c.fault.ensures (λ reader memory text rows h.
    other g.R.Read.remaining c.args.reader.now c.read_byte_record.new.self _ text rows c.requires.2
    (c.in-Err.ensures.why c.requires.1) reader memory h)
