use Rattle.std.proofs.Common.{refl, append_assoc}
use Rattle.wire.proofs.answer.push_fields.Goals as goal

pub returns-clause-value : goal.returns-clause-value
returns-clause-value c =
    rw (c.push_all-4.ensures.text, c.push_decimal.ensures.text, c.push_all-3.ensures.text, c.push_all-2.ensures.text, c.push_all.ensures.text)
    (simp append_assoc refl)
