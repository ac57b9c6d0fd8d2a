use Rattle.label.proofs.Words.{◌≡◌, length, body_read, elements_read}
use Rattle.label.proofs.reader.read_elements.Given as goal

abbrev pub invariant-loop-rest : goal.invariant-loop-rest
invariant-loop-rest l = body_read l.today l.body ≡ elements_read (length l.rest) l.today l.found l.rest

abbrev pub decreases-loop-rest : goal.decreases-loop-rest
decreases-loop-rest l = length l.rest
