use Rattle.std.proofs.Common.{◌∙◌, refl}
use Rattle.wire.proofs.ShortTexts.{code_is_json}
use Rattle.wire.proofs.short.code_text.Goals as goal

pub returns-clause-text : goal.returns-clause-text
returns-clause-text c =
    rw (c.of.ensures, c.push_all-3.ensures.text, c.push_all-2.ensures.text, c.as_bytes.ensures.value, c.push_all.ensures.text, c.new-text.ensures) refl

pub returns-clause-json : goal.returns-clause-json
returns-clause-json c = returns-clause-text c ∙ code_is_json c.args.code.now c.requires
