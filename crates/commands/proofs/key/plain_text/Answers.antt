use Rattle.std.proofs.Common.{refl}
use Rattle.commands.proofs.key.plain_text.Goals as goal

pub returns : goal.returns
returns c = rw (c.text.ensures.text, c.push_all-2.ensures.text, c.as_bytes.ensures.text, c.push_all.ensures.text, c.new-text.ensures) refl
