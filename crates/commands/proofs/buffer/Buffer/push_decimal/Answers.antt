use Rattle.std.proofs.Common.{◌++◌, ◌∙◌, ap}
use Rattle.commands.proofs.buffer.Buffer.push_decimal.Goals as goal

pub returns-clause-text : goal.returns-clause-text
returns-clause-text g c = c.push_all.ensures.text ∙ ap (λ t. c.args.self.now ++ t) (c.as_bytes.ensures ∙ c.decimal_text.ensures.text)
