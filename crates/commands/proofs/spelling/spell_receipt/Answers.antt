use Rattle.commands.specs.Spelling.{spelling}
use Rattle.commands.proofs.spelling.spell_receipt.Goals as goal

pub returns : goal.returns
unfolding spelling
returns c = rw (c.as_bytes.ensures.text, c.as_bytes-2.ensures.text, c.text.ensures, c.as_bytes-3.ensures.text, c.as_bytes-4.ensures, c.number_text.ensures, c.units.ensures.value) at c.joined.ensures
