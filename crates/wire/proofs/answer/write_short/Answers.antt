use Rattle.std.proofs.Common.{refl}
use Rattle.wire.proofs.answer.write_short.Goals as goal

pub returns-clause-bytes : goal.returns-clause-bytes
returns-clause-bytes c =
    rw (c.push_all.ensures.text, c.head-block.ensures.value, c.as_u16.ensures.value, c.as_bytes-body.ensures.text) refl
