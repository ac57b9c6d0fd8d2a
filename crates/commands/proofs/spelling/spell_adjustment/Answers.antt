use Rattle.commands.specs.Spelling.{spelling}
use Rattle.commands.proofs.spelling.spell_adjustment.Goals as goal

pub returns : goal.returns
unfolding spelling
returns c = rw (c.as_bytes.ensures.text, c.as_bytes-2.ensures.text, c.as_bytes-3.ensures.text, c.as_bytes-4.ensures, c.change_text.ensures) at c.joined.ensures
