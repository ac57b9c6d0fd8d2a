use Rattle.house.proofs.Words.{ap, sym, ◌∙◌, bytes_of}
use Rattle.house.proofs.answered.Answered.as_bytes.Goals as goal

pub returns-in-Long : goal.returns-in-Long
returns-in-Long c = c.as_slice.ensures.value ∙ sym (ap bytes_of c.in-Long.is)
